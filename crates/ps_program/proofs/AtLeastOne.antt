-- Each input has an answer, under the conditions that `Answered` states.

pub mod FittingTexts
pub mod SomeAnswer
pub mod SomeCut
pub mod SomeLaws
pub mod SomeLine
pub mod SomeReport
pub mod SomeRun
pub mod SomeSatisfaction
pub mod SomeStage
pub mod SomeStep
