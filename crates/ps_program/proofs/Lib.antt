pub mod AtLeastOne
pub mod AtMostOne
pub mod ByCommand
pub mod CommandLines
pub mod Exchanged
pub mod ProgramLemmas
pub mod StreamLemmas
