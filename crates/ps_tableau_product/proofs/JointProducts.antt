-- The product of an automaton and a tableau: how it is explored, and its fair cycles.

pub mod EdgePriorities
pub mod JointAdds
pub mod JointCycles
pub mod JointDrafts
pub mod JointLassos
pub mod JointMade
pub mod JointRows
pub mod JointWalks
