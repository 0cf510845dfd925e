pub mod KeptVertices
pub mod Servers
pub mod Lifted
pub mod LiftEntries
pub mod Guiding
