pub mod ReadCircuits
pub mod GatesAndLinks
pub mod CircuitRereading
