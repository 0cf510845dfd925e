-- What the two products with an automaton say about the automaton and the formula.

pub mod AgreementLemmas
pub mod Halves
pub mod JointReadings
pub mod NameReadings
