-- The rows of counts of all vertices, as chains of cells store them.

pub mod CountCells
pub mod CountsPlaced
pub mod NonzeroCells
pub mod Rows
pub mod WholeTable
pub mod Writing
