pub mod Hashes
pub mod Keys
pub mod Inner
