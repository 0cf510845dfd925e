-- The grammar of HOA texts, production by production.

pub mod Body
pub mod Conditions
pub mod Header
pub mod ItemNames
pub mod Labels
pub mod Nesting
pub mod Operands
