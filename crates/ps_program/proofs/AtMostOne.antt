-- Any two answers to one input are equal, or agree as far as `Determined` requires.

pub mod Agreeing
pub mod AgreeingAnswers
pub mod CompareDetermined
pub mod JudgedTexts
pub mod MissingTexts
pub mod OneCertified
pub mod OneCut
pub mod OneLine
pub mod OneSatisfaction
pub mod OneStage
pub mod OneStep
pub mod RefusedTexts
pub mod ShrinkDetermined
pub mod ShrinkTlsfDetermined
pub mod SynthTlsfDetermined
pub mod TraceFromLetters
pub mod TranslateDetermined
pub mod VerifyDetermined
pub mod VerifyTlsfDetermined
