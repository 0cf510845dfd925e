pub mod OperandLists
pub mod Tables
