-- Parsing AIGER texts: the grammar obeys the laws, each text has one answer, and one without errors is a circuit.

pub mod Adding
pub mod CircuitParts
pub mod CircuitTextLaws
pub mod DraftLemmas
pub mod DraftReading
pub mod FieldExits
pub mod FieldLemmas
pub mod Judges
pub mod LineLemmas
pub mod NearAndFar
pub mod NumberLemmas
pub mod OneCircuitReading
pub mod ReadingLemmas
pub mod SignLaws
pub mod SomeCircuitReading
pub mod SoundParts
pub mod SoundTexts
pub mod SymbolLemmas
