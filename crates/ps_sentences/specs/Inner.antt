-- Definitions that only private contracts use; no public clause refers to them.

pub mod Layers
pub mod Shapes
pub mod Sharing
pub mod Conjuncts
pub mod Owing
pub mod Conjoining
pub mod MentionedBefore
