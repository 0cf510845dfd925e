pub mod Sentences
pub mod Tables
pub mod Partings
pub mod Conjunctions
pub mod Mentions
pub mod Inner
