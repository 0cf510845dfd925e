-- Leaves that are indices in a list of pairs of leaves, and pairs that are added to this list.
use Rattle.std.specs.Prelude.{◌≡◌, ◌⊎◌, ℕ, ◌^◌, ◌<◌, List, Option, Some, None, slice_get}
use Rattle.ps_diagram.specs.Table.{Table, leaf_of}

-- the third leaf is the index, in the list `pairs`, of the pair of the first two leaves, or None if one of these is
-- None
abbrev pub IsPaired : List (ℕ × ℕ) → Option ℕ → Option ℕ → Option ℕ → Type 0
IsPaired pairs None second leaf = leaf ≡ None
IsPaired pairs (Some k) None leaf = leaf ≡ None
IsPaired pairs (Some k) (Some m) leaf = (place : ℕ) × (leaf ≡ Some place) × (slice_get pairs place ≡ Some (k, m))

-- each pair of the old list keeps its index in the new list, and each added pair has the property P
pub record Adds (P : ℕ × ℕ → Type 0) (old new : List (ℕ × ℕ)) : Type 0 where
  pub stays : (place : ℕ) (pair : ℕ × ℕ) → slice_get old place ≡ Some pair → slice_get new place ≡ Some pair
  pub added : (place : ℕ) (pair : ℕ × ℕ) → slice_get new place ≡ Some pair → (slice_get old place ≡ Some pair) ⊎ P pair

-- at some letter, the two nodes have the two leaves of the pair
abbrev pub MeetAt : Table → ℕ → ℕ → ℕ × ℕ → Type 0
MeetAt t first second pair =
    (letter : ℕ) × (letter < 2 ^ t.propositions) × (leaf_of t first letter ≡ Some pair.0) ×
    (leaf_of t second letter ≡ Some pair.1)
