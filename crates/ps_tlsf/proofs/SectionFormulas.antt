-- The formula of a whole specification is made from the formulas of its sections, in tables that grow.

pub mod Building
pub mod Conjoining
pub mod Joining
pub mod Placing
pub mod WholeFormulas
