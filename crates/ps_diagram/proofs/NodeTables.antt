-- The table of nodes, which only grows: its packed cells, the memo tables beside it, and lists of leaves.

pub mod Cells
pub mod Keys
pub mod KnownLemmas
pub mod LeafTables
pub mod MadeDiagrams
pub mod PackedLemmas
pub mod Seeing
