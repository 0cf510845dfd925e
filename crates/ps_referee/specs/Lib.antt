pub mod FaultNames
pub mod Inner
pub mod Solutions
