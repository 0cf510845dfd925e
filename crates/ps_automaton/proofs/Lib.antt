pub mod ChainsOfSets
pub mod AdmittedFiles
pub mod EdgesAtLetters
pub mod StepsByState
