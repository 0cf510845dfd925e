pub mod Judged
pub mod LongWords
pub mod Parsed
pub mod Usages
