-- The scan over the bytes of a text gives the tokens of the text.

pub mod Scanning
pub mod Streams
pub mod TokenSteps
pub mod Enclosed
pub mod StepMeanings
pub mod Relation
