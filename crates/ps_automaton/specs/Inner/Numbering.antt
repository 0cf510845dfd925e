-- The table of the priorities that a chain gives to edges. (For private functions.)
use Rattle.std.specs.Prelude.{◌≡◌, ℕ, ◌<◌, List, nat_eq, length, slice_index, slice_index_or}
use Rattle.ps_automaton.specs.Chains.{Chain, ChainLink, base_number, level_by}

abbrev pub AreSetsBelow : ℕ → List ChainLink → Type 0
AreSetsBelow count links = (k : ℕ) (d : ChainLink) → k < length links → (slice_index_or links k d).colour < count

-- the table has the priority of an edge without acceptance sets, and for each set the priority of an edge with only
-- this set
pub record IsTable (chain : Chain) (base : ℕ) (by_set : List ℕ) : Type 0 where
  pub base_is : base ≡ base_number chain.base
  pub by_set_is : (set : ℕ) → set < 64 → slice_index by_set set ≡ level_by chain.base chain.links (λ s. nat_eq s set)
