-- Whether a circuit wins for a formula, from the words of its lasso traces.

pub mod JudgingLemmas
pub mod MaskedSentences
pub mod PartSentences
pub mod Refuting
pub mod VerdictLemmas
pub mod WinningLemmas
