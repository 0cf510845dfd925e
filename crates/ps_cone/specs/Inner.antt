-- Definitions that only private contracts use; no public clause refers to them.

pub mod Needed
pub mod Cuts
