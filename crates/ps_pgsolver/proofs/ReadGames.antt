-- Parsing game texts: the grammar obeys the laws, each text has one answer, and a text without errors is a game.

pub mod Choices
pub mod GameAnswers
pub mod GameExits
pub mod GameLaws
pub mod GameLemmas
pub mod KeptLemmas
pub mod NodeLemmas
pub mod OneGameReading
pub mod PartLaws
pub mod SomeGameReading
pub mod Sound
pub mod SoundGames
pub mod WholeGames
