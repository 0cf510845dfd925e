-- The Boolean functions of a circuit's variables, computed one after another, and what outputs depend on.

pub mod Gates
pub mod GroupLemmas
pub mod LiteralTruths
pub mod NetLemmas
pub mod RoleLemmas
pub mod Settling
pub mod Stamps
pub mod StepsOf
pub mod TimingLemmas
pub mod TruthLemmas
pub mod TruthNodes
pub mod UnknownPlaces
