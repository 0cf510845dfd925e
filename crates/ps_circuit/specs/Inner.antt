-- Definitions that only the contracts of private functions use; no contract of a public function refers to them.

pub mod Cursors
pub mod Names
pub mod NearAndFar
pub mod Reading
pub mod RisingGates
pub mod Soundness
