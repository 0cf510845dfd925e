pub mod TokensOfGames
pub mod ReadGames
pub mod WriterLemmas
pub mod WrittenSigns
pub mod WrittenParts
pub mod WrittenGames
