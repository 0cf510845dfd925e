pub mod EvaluationPlans
pub mod LapsOfRuns
pub mod NamingLemmas
pub mod UniqueVerdicts
pub mod Stimuli
pub mod DecidedSymbols
