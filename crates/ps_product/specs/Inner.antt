-- Definitions that only private contracts use; no public clause refers to them.

pub mod Constants
pub mod Edges
pub mod Exploring
pub mod Entries
pub mod Knowing
pub mod Nets
pub mod Numbers
pub mod Plans
pub mod Ranks
pub mod Searches
pub mod Roles
pub mod Stored
