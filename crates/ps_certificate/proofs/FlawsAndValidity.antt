-- Flaws of certificates, of which one is the first, and what certificates without a flaw guarantee.

pub mod CountRule
pub mod FirstFlaws
pub mod Holding
pub mod Keeping
pub mod OneFlaw
pub mod SomeFlaw
pub mod SuccessorEdges
pub mod Windows
