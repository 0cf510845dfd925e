-- What one command prints, another reads, and answers as `Exchanged` states.

pub mod CheckedCertificates
pub mod ConfirmedStimuli
pub mod PrintedStimuli
pub mod SmallerSpecified
pub mod SmallerVerified
pub mod VerifiedCircuits
pub mod VerifiedWinners
