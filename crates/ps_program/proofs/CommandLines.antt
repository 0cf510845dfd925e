-- Lemmas about the command line and the text of `help`.

pub mod CommandLemmas
pub mod HelpLemmas
pub mod KindLemmas
pub mod LongWords
