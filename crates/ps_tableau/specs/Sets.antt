-- Sets of formulas as numbers. A table of sets is a list of pairs. The set 0 is empty; the set k + 1 has the formula
-- whose index is the first part of the pair at k, and the formulas of the set that is the pair's second part.
use Rattle.std.specs.Prelude.{◌≡◌, ℕ, zero, suc, ◌≤◌, List, [], ◌∷◌, length, slice_get, slice_index_or, Some}
use Rattle.ps_formula.specs.Formulas.{trees_behind}

-- the set with a number, given the sets after the empty one
abbrev pub set_at : List (List ℕ) → ℕ → List ℕ
set_at known zero = []
set_at known (suc k) = slice_index_or known k []

abbrev pub set_of : List (List ℕ) → ℕ × ℕ → List ℕ
set_of known pair = pair.0 ∷ set_at known pair.1

-- the indices of the formulas of each set after the empty one
unfoldable pub all_sets : List (ℕ × ℕ) → List (List ℕ)
all_sets pairs = trees_behind set_of [] pairs

-- the indices of the formulas of a set
abbrev pub indices_in : List (ℕ × ℕ) → ℕ → List ℕ
indices_in pairs set = set_at (all_sets pairs) set

abbrev pub IsSet : List (ℕ × ℕ) → ℕ → Type 0
IsSet pairs set = set ≤ length pairs

-- each set is made from an earlier one
pub record AreSets (pairs : List (ℕ × ℕ)) : Type 0 where
  pub earlier : (k : ℕ) (pair : ℕ × ℕ) → slice_get pairs k ≡ Some pair → pair.1 ≤ k

-- each old set is a new set, with the same formulas
pub record KeepsSets (old new : List (ℕ × ℕ)) : Type 0 where
  pub held : (set : ℕ) → IsSet old set → IsSet new set
  pub same : (set : ℕ) → IsSet old set → indices_in new set ≡ indices_in old set
