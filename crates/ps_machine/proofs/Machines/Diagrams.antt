-- The diagrams of a machine whose player moves first, and of a machine whose player moves second.

pub mod ClassTables
pub mod StoredClasses
pub mod RowTests
pub mod MaskLemmas
pub mod DrawingLemmas
pub mod ClassRests
pub mod FirstDrawing
pub mod FollowedEdges
pub mod LowStates
pub mod SecondDrawing
