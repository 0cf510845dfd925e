-- Each entry of a certificate has counts, and only its nonzero counts are stored. These are lemmas about the stored
-- counts.

pub mod Lines
pub mod Lists
pub mod LongerRows
pub mod RowCopies
pub mod Sparse
pub mod ZeroRuns
