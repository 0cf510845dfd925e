-- Definitions that only private contracts use; no public clause refers to them.

pub mod Assembling
pub mod BitAssembling
pub mod ByLetters
pub mod Certificates
pub mod Drawing
pub mod Exploring
pub mod Knowing
pub mod Moving
pub mod Naming
pub mod Placing
pub mod Planning
pub mod Stored
pub mod Visits
