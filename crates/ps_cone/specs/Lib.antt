pub mod Parts
pub mod Cones
pub mod Masks
pub mod Inner
