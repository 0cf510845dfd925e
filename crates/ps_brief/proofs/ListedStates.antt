-- The keys to which steps lead are listed state by state, each state with its targets.

pub mod EnteredKeys
pub mod KeptListings
pub mod KeptTargets
pub mod LeastPlaces
pub mod ListedKeys
pub mod ListedPlaces
pub mod MadeTargets
pub mod PlacedKeys
pub mod StepLeaves
pub mod StepTests
pub mod Taking
pub mod TargetLists
pub mod Visits
