-- The gates of circuits and of their builder, and the gates on which they depend.

pub mod GateCycles
pub mod GateLemmas
pub mod LinksLemmas
pub mod MadeLemmas
pub mod MadeSound
pub mod Ordered
pub mod Rising
pub mod TestedParts
