-- Definitions that only contracts of private functions use; no clause of a public function refers to them.

pub mod SetSteps
pub mod Calls
pub mod NeedSteps
pub mod Joins
pub mod Pruning
pub mod Reduction
