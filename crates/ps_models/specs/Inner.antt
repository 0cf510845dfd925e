-- Definitions that only private contracts use; no public clause refers to them.

pub mod Judging
pub mod Comparing
pub mod Trying
pub mod Claims
pub mod Grouping
