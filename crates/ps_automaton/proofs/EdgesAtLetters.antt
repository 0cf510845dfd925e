-- The edges of a state that are taken at a letter, found by diagrams or letter by letter.

pub mod EdgeUnions
pub mod FirstCases
pub mod FirstEdges
pub mod Fitting
pub mod LetterRows
pub mod LetterSets
pub mod Meeting
pub mod Ready
pub mod TakenEdges
