pub mod MapLemmas
pub mod TableLemmas
