pub mod Members
pub mod CoversOfSets
pub mod Sound
pub mod Complete
pub mod Rounds
pub mod SetLemmas
pub mod BoardLemmas
