-- Definitions that only private contracts use; no public clause refers to them.

pub mod AddedNeeds
pub mod Moving
pub mod Namings
pub mod StimulusReading
pub mod TablesForSteps
