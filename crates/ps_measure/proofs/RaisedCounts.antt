-- Least counts exist unless there is a cycle that the player loses, and passes over the components find them.

pub mod CountsOrCycle
pub mod Growing
pub mod Held
pub mod LeastInGame
pub mod PassSteps
pub mod Passing
pub mod Raising
pub mod Summing
