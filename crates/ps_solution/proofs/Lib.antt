pub mod EntryLoop
pub mod OneSolutionReading
pub mod SignAnswers
pub mod SolutionLaws
pub mod SomeSolutionReading
pub mod SpelledEntries
pub mod StatedEntries
pub mod WholeSolutions
