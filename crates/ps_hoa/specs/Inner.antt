-- Definitions that only private contracts use; no public clause refers to them.

pub mod Ahead
pub mod Flaws
pub mod Items
pub mod LabelRows
pub mod Lexemes
pub mod Reads
pub mod RowPlaces
pub mod Rows
pub mod Reader
pub mod Signs
