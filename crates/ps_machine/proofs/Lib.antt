pub mod AutomatonGames
mod LettersOneByOne
mod FileBoards
pub mod Machines
pub mod Lassos
pub mod Uniqueness
