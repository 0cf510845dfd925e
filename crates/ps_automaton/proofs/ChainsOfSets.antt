-- Chains of acceptance conditions, and the priorities that they give to acceptance sets.

pub mod Bits
pub mod ChainLaws
pub mod ChainSets
pub mod Gatherings
pub mod NumberTables
