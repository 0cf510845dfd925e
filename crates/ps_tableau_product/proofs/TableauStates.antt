-- The states of a tableau with their edges, and the diagrams of the letters that they read.

pub mod AlphabetLemmas
pub mod BoardTableaux
pub mod ComposedLemmas
pub mod Scenes
pub mod StateLemmas
pub mod ViewLemmas
