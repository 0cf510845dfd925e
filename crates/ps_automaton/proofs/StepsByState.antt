-- The diagrams of the automaton's steps are built, one state after another.

pub mod Building
pub mod DistinctEntries
pub mod Drafting
pub mod PlaceTables
pub mod RowSteps
pub mod StateSteps
pub mod StepTables
pub mod Steps
