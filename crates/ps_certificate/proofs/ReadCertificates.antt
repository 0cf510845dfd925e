-- Parsing certificates: the grammar of their texts obeys the laws, and each parsing function reads its part.

pub mod ByteSteps
pub mod CertificateParts
pub mod EntrySteps
pub mod Loops
pub mod NumberOutcomes
pub mod NumberPart
pub mod Numerals
pub mod OneReading
pub mod PairLoops
pub mod PairSteps
pub mod TextFits
pub mod TextLaws
