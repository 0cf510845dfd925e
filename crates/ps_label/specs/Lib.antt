pub mod Expression
pub mod Truth
pub mod Codes
pub mod Words
