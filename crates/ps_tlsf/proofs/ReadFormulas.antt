-- The machine that reads formulas reads exactly what the grammar derives.

pub mod Completeness
pub mod Contexts
pub mod DerivedReads
pub mod DerivedRuns
pub mod DerivedTexts
pub mod Forms
pub mod FormulaRuns
pub mod FormulaSteps
pub mod Productions
pub mod Readings
pub mod TreeMachine
pub mod TreeViews
pub mod Unwinding
