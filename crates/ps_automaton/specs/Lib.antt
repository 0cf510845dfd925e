pub mod Chains
pub mod Autos
pub mod Acceptance
pub mod Automata
pub mod Answers
pub mod FaultNames
pub mod Inner
