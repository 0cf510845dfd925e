-- Stems and laps that repeat, and the words of a circuit's lasso traces.

pub mod LassoWalks
pub mod Rotations
pub mod WordSteps
