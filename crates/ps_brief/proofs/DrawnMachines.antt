-- The machine that is drawn from drafts: the keys that the moves reach, its memory states, rows and diagrams.

pub mod BriefMachines
pub mod DrawnParts
pub mod EnteredPlaces
pub mod KeptPlaces
pub mod MachineDrawn
pub mod OwnBits
pub mod PairedNodes
pub mod Playing
pub mod Reaches
pub mod RowSteps
pub mod VisitedKeys
