-- Definitions that only private contracts use; no public clause refers to them.

pub mod Aims
pub mod Boards
pub mod Depths
pub mod Levels
pub mod Nests
pub mod Stacks
pub mod Turns
