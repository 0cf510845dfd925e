pub mod FunctionLemmas
pub mod RangeLemmas
pub mod LetterLemmas
pub mod OverLemmas
pub mod EncodeLemmas
pub mod WiredLemmas
pub mod StoredSteps
mod OneCircuit
mod SameWires
pub mod WireLemmas
mod WiredMade
mod Making
pub mod CircuitLayout
mod CircuitShape
mod CircuitSteps
mod CircuitThere
