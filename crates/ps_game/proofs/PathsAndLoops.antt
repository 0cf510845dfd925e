-- Paths in games, their loops, and the strategies that win them.

pub mod Beaten
pub mod LoopPriorities
pub mod Memory
pub mod OnPaths
pub mod Paths
pub mod Repeats
pub mod SubgameFacts
