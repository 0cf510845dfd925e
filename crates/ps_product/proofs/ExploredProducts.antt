-- The product is explored vertex by vertex: its keys, its edges, and the way to each vertex.

pub mod EdgeLemmas
pub mod ExploringLemmas
pub mod FinishedLemmas
pub mod NotedLeads
pub mod VertexNumbers
pub mod WordNumbers
