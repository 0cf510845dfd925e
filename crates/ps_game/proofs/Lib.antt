pub mod PathsAndLoops
pub mod StoredGames
pub mod Priorities
pub mod PriorityLists
