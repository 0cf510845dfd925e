-- Lemmas for the functions of each command.

pub mod AutomatonLemmas
pub mod CheckLemmas
pub mod CircuitLemmas
pub mod CompareLemmas
pub mod JudgeLemmas
pub mod LassoAnswers
pub mod MixedLemmas
pub mod OutcomeLemmas
pub mod SolverLemmas
pub mod SynthLemmas
pub mod SynthTlsfLemmas
pub mod TextLemmas
pub mod TraceLemmas
