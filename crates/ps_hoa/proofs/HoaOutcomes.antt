-- Each HOA text has exactly one answer: its meaning, or its first error.

pub mod Judging
pub mod Nesting
pub mod HeaderFlaws
pub mod LabelOutcomes
pub mod HeaderOutcomes
pub mod BodyOutcomes
pub mod OneHoaReading
pub mod SomeHoaReading
