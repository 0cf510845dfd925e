pub mod PendingCalls
pub mod DividedSubgames
pub mod PlacedVertices
