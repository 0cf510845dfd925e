-- Definitions that only private contracts use; no public clause refers to them.

pub mod Merging
pub mod Renaming
