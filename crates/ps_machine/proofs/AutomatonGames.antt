-- The game of an automaton: the letters of both players, their classes and moves, and the keys of vertices.

pub mod BoardLetters
pub mod BoardMoves
pub mod BoardSteps
pub mod DecidedMoves
pub mod GameKeys
pub mod LeastLetters
pub mod Movers
