-- Texts of single bytes.

pub mod Pieces
pub mod Single
pub mod Runs
pub mod RunOutcomes
pub mod Moves
pub mod Lawful
pub mod Lefts
