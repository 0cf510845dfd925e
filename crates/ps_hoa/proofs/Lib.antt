pub mod Lexing
pub mod Grammar
pub mod Reading
pub mod Soundness
pub mod HoaOutcomes
