-- Bases: letters that are marked one after another, in the order of their ranks, until they cover all letters.

pub mod Behind
pub mod CoveredLetters
pub mod Coverings
pub mod Excluding
pub mod FoundLetters
pub mod Lowering
pub mod MarkedLetters
pub mod Marking
pub mod Masks
pub mod Ranks
