pub mod NodeTables
pub mod Canon
pub mod TreesFromData
pub mod Sides
pub mod TreeOperations
pub mod Letters
pub mod ClassesOfLetters
