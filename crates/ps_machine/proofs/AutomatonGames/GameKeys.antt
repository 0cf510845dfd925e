-- The game of an automaton is built by visiting its vertices, known by their keys (what they stand for), and numbering
-- them breadth first.

pub mod KeyTests
pub mod KeyNames
pub mod Standing
pub mod Visiting
pub mod Exploring
pub mod Getting
pub mod StepNumbers
pub mod Spans
pub mod Vertices
pub mod Starting
pub mod GameThere
pub mod GameSound
