-- What the laws in `laws.rt` state.

pub mod Answered
pub mod Determined
pub mod Exchanged
