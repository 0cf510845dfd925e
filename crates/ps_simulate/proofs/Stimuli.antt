-- The parser of stimuli is correct, and each text of a stimulus has exactly one answer.

pub mod StimulusLines
pub mod StimulusSteps
pub mod StimulusLemmas
pub mod OneStimulus
pub mod SomeStimulus
