-- Sets that are made, taken apart and joined. (For private functions.)
use Rattle.std.specs.Prelude.{◌≡◌, ◌↔◌, ◌⊎◌, ℕ, ◌+◌, ◌<◌, ◌≤◌, IfOk, List, ◌∷◌, Contains, Result}
use Rattle.ps_tableau.specs.declared.sets.Greatest.{Greatest}
use Rattle.ps_tableau.specs.declared.sets.Merged.{Merged}
use Rattle.ps_tableau.specs.declared.sets.Parts.{Parts}
use Rattle.ps_tableau.specs.Sets.{AreSets, IsSet, KeepsSets, indices_in}

-- Each old set stays as it is, also if the call fails. The set that the call gives has a property.
pub record ExtendsSets {E : Type 0} (old new : List (ℕ × ℕ)) (result : Result ℕ E) (P : ℕ → Type 0) : Type 0 where
  pub extends : KeepsSets old new
  pub sets : AreSets new
  pub set : IfOk result P

-- two sets of the table
pub record AreBothSets (pairs : List (ℕ × ℕ)) (a b : ℕ) : Type 0 where
  pub first : IsSet pairs a
  pub second : IsSet pairs b

-- a set whose formulas have a property
pub record MakesSet (pairs : List (ℕ × ℕ)) (P : List ℕ → Type 0) (set : ℕ) : Type 0 where
  pub held : IsSet pairs set
  pub right : P (indices_in pairs set)

-- the parts of a set: a formula, and an earlier set
pub record ArePartsOf (pairs : List (ℕ × ℕ)) (set : ℕ) (parts : Parts) : Type 0 where
  pub held : IsSet pairs parts.others
  pub earlier : (parts.others + 1) ≤ set
  pub is : indices_in pairs set ≡ parts.greatest ∷ indices_in pairs parts.others

-- one of the sets is empty
abbrev pub IsNone : ℕ → ℕ → Type 0
IsNone a b = (a ≡ 0) ⊎ (b ≡ 0)

-- the formulas of two sets are the formula and those of two others
pub record IsGreatest (pairs : List (ℕ × ℕ)) (a b : ℕ) (g : Greatest) : Type 0 where
  pub first : IsSet pairs g.first
  pub second : IsSet pairs g.second
  pub falls : (g.first + g.second) < (a + b)
  pub each : (k : ℕ) → (Contains (indices_in pairs a) k ⊎ Contains (indices_in pairs b) k)
      ↔ ((g.index ≡ k) ⊎ (Contains (indices_in pairs g.first) k ⊎ Contains (indices_in pairs g.second) k))

-- the formulas of two sets are those in the list and those of the rest
pub record AreMerged (pairs : List (ℕ × ℕ)) (a b : ℕ) (m : Merged) : Type 0 where
  pub held : IsSet pairs m.rest
  pub each : (k : ℕ) → (Contains (indices_in pairs a) k ⊎ Contains (indices_in pairs b) k)
      ↔ (Contains m.taken.items k ⊎ Contains (indices_in pairs m.rest) k)

-- the formulas of the new set are those in the list and those of the old set
pub record AreSetsWith (old : List (ℕ × ℕ)) (more : List ℕ) (set : ℕ) (new : List (ℕ × ℕ)) (result : ℕ) : Type 0 where
  pub held : IsSet new result
  pub each : (k : ℕ) → Contains (indices_in new result) k ↔ (Contains more k ⊎ Contains (indices_in old set) k)

-- the formulas of the new set are those of two old ones
pub record IsUnion (old : List (ℕ × ℕ)) (a b : ℕ) (new : List (ℕ × ℕ)) (result : ℕ) : Type 0 where
  pub held : IsSet new result
  pub each : (k : ℕ) → Contains (indices_in new result) k
      ↔ (Contains (indices_in old a) k ⊎ Contains (indices_in old b) k)

-- each formula of the first set is one of the second
abbrev pub IsWithin : List (ℕ × ℕ) → ℕ → ℕ → Type 0
IsWithin pairs a b = (k : ℕ) → Contains (indices_in pairs a) k → Contains (indices_in pairs b) k
