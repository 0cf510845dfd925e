-- Definitions that only private contracts use; no public clause refers to them.

pub mod Growing
pub mod States
pub mod Views
pub mod Rows
pub mod Drafts
pub mod Exploring
pub mod Composing
pub mod Alphabets
pub mod Joining
