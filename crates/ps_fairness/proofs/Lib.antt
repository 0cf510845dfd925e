pub mod InsideLemmas
pub mod WalkLemmas
