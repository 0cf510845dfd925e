pub mod Stimulated
pub mod Judgements
pub mod Inner
