-- Definitions that only contracts of private functions use; no clause of a public function refers to them.

pub mod Passes
pub mod Rows
pub mod Truths
pub mod Forms
