-- Every parsed HOA file satisfies `IsSoundFile`.

pub mod KeptByParts
pub mod NameSets
pub mod Differences
pub mod NumberSlots
pub mod SoundLabels
pub mod HeaderKept
pub mod SoundHeaders
pub mod SoundBodies
pub mod SoundFiles
pub mod SoundLaws
pub mod RowsInOrder
