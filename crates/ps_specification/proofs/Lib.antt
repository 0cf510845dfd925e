pub mod BothPlayers
pub mod DistinctNames
pub mod FormulaJudges
pub mod ProposalReasons
pub mod RoutedBits
pub mod TranslationReasons
pub mod SameNames
