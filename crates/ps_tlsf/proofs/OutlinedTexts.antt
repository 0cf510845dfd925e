-- The run through the tokens of a text: its outline, its declared names, and its answer.

pub mod Derivatives
pub mod GoodSteps
pub mod NameLemmas
pub mod NamesDiffer
pub mod OutlineTexts
pub mod Outlines
pub mod Running
pub mod Scanning
pub mod WholeAnswers
