pub mod BriefArenas
pub mod BasesOfLetters
pub mod DrawnMachines
pub mod DraftedMoves
pub mod ListedStates
