-- What the program answers to each command.

pub mod Checks
pub mod Comparing
pub mod Games
pub mod Judging
pub mod Lassos
pub mod Satisfying
pub mod Shrinking
pub mod ShrinkingTlsf
pub mod Simulating
pub mod Solving
pub mod Synthesis
pub mod SynthesisTlsf
pub mod TranslationTexts
pub mod Verifying
pub mod VerifyingTlsf
