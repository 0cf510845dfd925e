pub mod CircuitFunctions
pub mod ExploredProducts
