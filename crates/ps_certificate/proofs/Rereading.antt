-- Parsing the text that was written for a certificate gives this certificate.

pub mod WritingSteps
pub mod CountsOfPairs
pub mod WrittenEntries
pub mod StoredPairs
