pub mod Briefs
pub mod Drawing
pub mod ArenaGames
pub mod Listings
pub mod MinimalLetters
pub mod Settings
pub mod Targets
pub mod Inner
