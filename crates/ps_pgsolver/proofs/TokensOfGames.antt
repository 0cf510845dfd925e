-- The tokens of a game text, and the functions that read one of them.

pub mod GameTokens
pub mod NextSigns
pub mod NumberTokens
pub mod OneSign
pub mod SingleSigns
pub mod TakenTokens
pub mod TokenLemmas
