pub mod ComparedAutomata
pub mod JudgedCircuits
pub mod TriedCircuits
