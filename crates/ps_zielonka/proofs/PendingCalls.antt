-- The solver's stack of pending calls: how calls begin, go on and end, and why the solver stops.

pub mod Answered
pub mod Begins
pub mod Begun
pub mod Below
pub mod Climbs
pub mod Deep
pub mod Depths
pub mod Done
pub mod Ending
pub mod Frames
pub mod GoesOn
pub mod Measure
