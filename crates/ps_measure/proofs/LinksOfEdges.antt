-- The graphs on which counts are computed: their links, how they are sorted, and where counts begin.

pub mod PriorityGraph
pub mod RemainingEdges
pub mod Roots
pub mod SourceLists
