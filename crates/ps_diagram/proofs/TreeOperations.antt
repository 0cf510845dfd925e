-- Operations on trees: overlays, disjunctions, choices, replaced leaves, and hidden or replaced propositions.

pub mod BitLists
pub mod Choosing
pub mod Clashing
pub mod Composing
pub mod HiddenLetters
pub mod Hiding
pub mod Joining
pub mod LeastBits
pub mod Mapping
pub mod Pairing
pub mod Truths
pub mod Unions
pub mod Uniting
