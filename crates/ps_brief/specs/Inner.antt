-- Definitions that only private contracts use; no public clause refers to them.

pub mod Arranging
pub mod Covering
pub mod Drafts
pub mod Finding
pub mod Parts
pub mod Placing
pub mod Playable
pub mod Reaching
pub mod Visiting
