pub mod Entries
pub mod Inner
pub mod Reading
pub mod Solved
pub mod Texts
