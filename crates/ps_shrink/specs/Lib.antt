pub mod Reductions
pub mod Inner
