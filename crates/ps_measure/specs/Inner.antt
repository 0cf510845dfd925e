-- Definitions that only private contracts use; no public clause refers to them.

pub mod Cells
pub mod Columns
pub mod Filling
pub mod Groups
pub mod Outcomes
pub mod Remaining
