-- What parsing functions return, and the answer to a text: there is always one, and only one.

pub mod Branches
pub mod Decisions
pub mod Exits
pub mod MeetsLemmas
pub mod OneAnswer
pub mod OneTokenisation
pub mod Outcomes
pub mod Whole
