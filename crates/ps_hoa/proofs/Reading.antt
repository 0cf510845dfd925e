-- Lemmas for the proofs of the functions that parse HOA texts.

pub mod NextSign
pub mod SingleTokens
pub mod HoaExits
pub mod ExpectReading
pub mod IntSigns
pub mod RowReading
pub mod NestedRows
pub mod InfixReading
pub mod CondRows
pub mod LeafReading
pub mod NewAliases
pub mod BodyReading
pub mod RowTable
pub mod StateReading
pub mod Openings
pub mod Answering
pub mod DigitRuns
pub mod NameLemmas
pub mod Positions
