-- Circuits that are tried by one sentence after another.

pub mod ClaimLemmas
pub mod CoreLemmas
pub mod TogetherLemmas
pub mod TrialLemmas
