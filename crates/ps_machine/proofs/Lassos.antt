-- A machine that reads letters for ever plays in the automaton's game. The winner of vertex 0 wins each lasso of the
-- machine (a run that repeats its last part for ever).

pub mod Rounds
pub mod ListedPaths
pub mod Walking
pub mod EndlessRuns
pub mod LassosAreWon
pub mod FileLassos
