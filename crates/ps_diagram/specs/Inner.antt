-- Definitions that only contracts of private functions use; no clause of a public function refers to them.

pub mod Bits
pub mod Chosen
pub mod Composed
pub mod Hiding
pub mod Kept
pub mod Known
pub mod LeafTables
pub mod Numbered
pub mod Packed
pub mod Parts
pub mod Placed
pub mod Rests
pub mod Rows
pub mod Splitting
pub mod Unions
