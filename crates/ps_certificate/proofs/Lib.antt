pub mod FlawsAndValidity
pub mod ReadCertificates
pub mod SparseRows
pub mod Rereading
mod OneWinner
