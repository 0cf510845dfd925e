-- A circuit reads a stem once and a lap repeatedly, until its latches repeat: the word of such a run, and its letters.

pub mod BitLists
pub mod CountLemmas
pub mod LassoLemmas
pub mod LetterBitLaws
pub mod SeenLemmas
pub mod WordLemmas
