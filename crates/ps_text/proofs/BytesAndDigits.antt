-- Texts of single bytes, runs of bytes, and decimal numbers.

pub mod ByteRuns
pub mod Bytes
pub mod Decimals
pub mod FewDigits
pub mod LeadingDigits
