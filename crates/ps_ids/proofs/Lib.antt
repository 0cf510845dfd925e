pub mod IdPlaces
pub mod Members
