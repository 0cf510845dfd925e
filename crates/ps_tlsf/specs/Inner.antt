-- Definitions that only the contracts of private functions use; no contract of a public function refers to them.

pub mod Lexing
pub mod Views
pub mod StateViews
pub mod Building
pub mod Placing
pub mod Runs
