-- Definitions that only private contracts use; no public clause refers to them.

pub mod Cases
pub mod Drafts
pub mod Gathering
pub mod LetterSets
pub mod Numbering
pub mod Places
pub mod Returning
pub mod StepTables
pub mod Targets
pub mod Views
