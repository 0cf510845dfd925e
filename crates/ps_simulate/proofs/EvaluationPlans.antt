-- The plan by which the gates of a circuit are evaluated, for one run and for 256 runs at once.

pub mod GateOrders
pub mod LaneLemmas
pub mod LanePlanLemmas
pub mod LaneStepLemmas
pub mod MoveLemmas
pub mod NeededLemmas
pub mod PlacesLemmas
pub mod RowLemmas
pub mod RunLemmas
pub mod StepLemmas
pub mod ValueLemmas
pub mod WorkLemmas
