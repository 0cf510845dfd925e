pub mod FaultNames
pub mod Inner
pub mod Ranks
pub mod Sums
pub mod Tables
