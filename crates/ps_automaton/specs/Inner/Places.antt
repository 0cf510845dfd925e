-- A list of different targets of edges, and a table of their indices. (For private functions.)
use Rattle.std.specs.Prelude.{◌≡◌, ◌⊎◌, ℕ, List, [], ◌∷◌, ◌++◌, Option, Some, slice_get}
use Rattle.std.specs.Ordering.{nat_cmp, ordering_then}
use Rattle.std.specs.declared.cmp.Ordering.{Ordering}
use Rattle.ps_automaton.specs.declared.targets.Target.{Target}

-- pairs of a state and a bit mask are ordered by the state, and then by the mask
abbrev pub pair_cmp : ℕ × ℕ → ℕ × ℕ → Ordering
pair_cmp p q = ordering_then (nat_cmp p.0 q.0) (nat_cmp p.1 q.1)

-- each entry has only one index
abbrev pub AreDistinct : {X : Type 0} → List X → Type 0
AreDistinct {X} entries = (i j : ℕ) (x : X) → slice_get entries i ≡ Some x → slice_get entries j ≡ Some x → i ≡ j

-- the table has the index of each target, and no other entries
pub record IsTableOf (targets : List Target) (table : ℕ → ℕ → Option ℕ) : Type 0 where
  pub sound : (target : Target) (place : ℕ) → table target.state target.sets ≡ Some place →
      slice_get targets place ≡ Some target
  pub whole : (target : Target) (place : ℕ) → slice_get targets place ≡ Some target →
      table target.state target.sets ≡ Some place

-- the new list is the old list, or the old list with the entry appended; the entry is at the index `place` of the new
-- list
pub record IsPlaced {X : Type 0} (old new : List X) (entry : X) (place : ℕ) : Type 0 where
  pub list : (new ≡ old) ⊎ (new ≡ old ++ entry ∷ [])
  pub stored : slice_get new place ≡ Some entry
