pub mod Mixings
pub mod MixedFiles
pub mod MixedOrSame
pub mod MixedAutos
pub mod MixedBoards
pub mod Orders
pub mod Inner
