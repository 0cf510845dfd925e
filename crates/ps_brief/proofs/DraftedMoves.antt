-- Drafts of a winner's moves, which are tried vertex by vertex in the arena's order.

pub mod Drafted
pub mod Drafting
pub mod DraftsMade
pub mod MovesAt
pub mod NotedLeaves
pub mod Orders
pub mod ReadyPlans
