pub mod FaultNames
pub mod LeastCertificates
pub mod Solvers
pub mod Solving
