-- The product of a circuit and a tableau: how it is explored, and its fair lassos.

pub mod AddLemmas
pub mod AppendLemmas
pub mod DraftLemmas
pub mod Drafts
pub mod FairLassos
pub mod GraphLassos
pub mod GraphLemmas
pub mod GraphMade
pub mod GrowingRows
pub mod HavingCycles
pub mod HavingLassos
pub mod RowLemmas
pub mod StepLemmas
