-- Classes of letters: what remains of a diagram behind a letter, and the least letter of each leaf.

pub mod Classing
pub mod Distinct
pub mod Dividing
pub mod Gathering
pub mod LetterSums
pub mod Numbering
pub mod Spreading
