-- Games, names, tables of moves and sets of vertices as lists and machine words store them.

pub mod DistinctByStamps
pub mod Finished
pub mod FlatArrays
pub mod Groups
pub mod MoveLists
pub mod NameParts
pub mod NamesKept
pub mod Unknown
pub mod VertexArrays
pub mod WordSets
