-- Classes and successors of vertices, found by trying each letter of a player.

pub mod ByLetters
pub mod LeafRows
pub mod LetterLists
