pub mod Judgements
pub mod Verdicts
pub mod Sentences
pub mod Agreements
pub mod AgreementFaultNames
pub mod Inner
