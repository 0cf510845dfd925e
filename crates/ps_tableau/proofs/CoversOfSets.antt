-- Covers of sets of formulas: joined, multiplied, pruned, and made for each operator.

pub mod Brought
pub mod CoverRows
pub mod JoinLemmas
pub mod KnownLemmas
pub mod NeedLemmas
pub mod OperatorLemmas
pub mod Products
pub mod PruneLemmas
pub mod PruneSteps
pub mod ReduceLemmas
pub mod WayLemmas
pub mod Ways
pub mod WrongCovers
