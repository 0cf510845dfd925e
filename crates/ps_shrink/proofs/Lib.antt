pub mod AssembledCircuits
pub mod AutomatonJudges
