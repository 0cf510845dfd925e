-- Arenas without classes of letters: their keys, vertices and moves, from the bases of all listed states.

pub mod ArenaKeyLists
pub mod ArenaMoves
pub mod ArenaSuccessors
pub mod ArenaVertices
pub mod Findings
pub mod RichGames
pub mod WholeArenas
