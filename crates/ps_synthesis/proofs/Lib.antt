pub mod CertifyingLemmas
pub mod CircuitFaults
pub mod ReportOutcomes
pub mod Reporting
mod GreatestWord
pub mod SynthesiseLemmas
mod OneWinnersCircuit
pub mod ShortTexts
pub mod UnseenGames
mod WinnersCircuitThere
mod MixedWinners
mod MixedAutomata
