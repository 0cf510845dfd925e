-- Each subgame divides into the vertices that each player holds: attractors, and iterations of the algorithm.

pub mod Attracted
pub mod Divided
pub mod Forms
pub mod HeldSets
pub mod SetTables
pub mod Tops
pub mod Turning
pub mod Walks
pub mod WholeTurn
