pub mod Combinators
pub mod ParsedAnswers
pub mod BytesAndDigits
pub mod NestedComments
