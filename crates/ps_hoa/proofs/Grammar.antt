-- The laws of a grammar: which tokens can begin and continue the texts of each production, and that no token can both
-- continue one part and begin the next.

pub mod TokenLaws
pub mod OperandLaws
pub mod KindSets
pub mod InfixLaws
pub mod LabelLaws
pub mod ConditionLaws
pub mod HeaderSigns
pub mod ItemRows
pub mod WholeHeader
pub mod BodyLaws
pub mod StateLaws
pub mod FileLaws
pub mod ItemForms
