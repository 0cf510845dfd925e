pub mod Graphs
pub mod Codes
pub mod ComponentLists
pub mod Trails
pub mod Orders
pub mod Searching
pub mod Searches
pub mod Inner
