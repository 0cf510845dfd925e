pub mod Formulas
pub mod Satisfaction
pub mod NormalForms
pub mod NodeHashes
pub mod NodeKeys
pub mod Inner
