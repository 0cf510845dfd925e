-- Definitions that only the contracts of private functions use; no contract of a public function refers to them.

pub mod Places
pub mod Prefixes
pub mod Reading
pub mod Writing
