pub mod Answers
pub mod Depths
pub mod Divisions
pub mod Inner
