-- Letters, labels and lists of propositions that are moved to other places, and orders that are merged.

pub mod GameLetters
pub mod MergedOrders
pub mod MovedLetters
pub mod MovedLists
pub mod MovedSums
pub mod OrderMixings
pub mod OwnedLists
pub mod RenamedLabels
