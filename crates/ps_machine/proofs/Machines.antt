-- A valid certificate of an automaton's game has a machine, which the code builds.

pub mod UsedVertices
pub mod MemorySteps
pub mod KeptMemories
pub mod Listing
pub mod Assembling
pub mod BitLetters
pub mod OwnPropositions
pub mod WholeBitMachines
pub mod MachineLemmas
pub mod Extracted
pub mod PartsThere
pub mod MachineThere
pub mod Diagrams
