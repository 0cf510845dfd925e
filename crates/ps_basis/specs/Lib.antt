pub mod ArenaMoves
pub mod Arenas
pub mod Bases
pub mod Counterparts
pub mod Listing
pub mod Memories
pub mod PairOrder
