-- Diagrams made by hiding the propositions of a mask, or by fixing the others.
--
-- - `IsClear mask x`: no proposition of the mask is true in the letter x
-- - `HasLeafBehind t node mask x y`: y is a letter over the mask, and the node has a leaf at the letter x + y
-- - `IsProjection s t node mask made`: the diagram `made` has the leaf 1 at each x behind which there is such a y
-- - `IsBehind s t node mask x made`: the leaf of the diagram `made` at a letter y is the node's at x + y, for a letter
--   x over the mask
--
-- The node is in the table s; the diagram `made` is in the table t.
use Rattle.std.specs.Prelude.{◌≡◌, ℕ, ◌+◌, ◌^◌, ◌<◌, true, false, cond, nat_eq, Option, Some, None, IsSome, MatchOption}
use Rattle.ps_label.specs.Truth.{is_in}
use Rattle.ps_diagram.specs.Letters.{AgreeOff}
use Rattle.ps_diagram.specs.Table.{Table, leaf_of}

-- the leaf 1 if the argument is the leaf `value`, and otherwise None
abbrev pub one_for : ℕ → Option ℕ → Option ℕ
one_for value None = None
one_for value (Some k) = cond (nat_eq k value) (Some 1) None

abbrev pub IsClear : ℕ → ℕ → Type 0
IsClear mask x = (p : ℕ) → is_in p mask ≡ true → is_in p x ≡ false

-- only propositions of the mask are true in the letter y
abbrev pub IsOver : ℕ → ℕ → Type 0
IsOver mask y = (p : ℕ) → is_in p mask ≡ false → is_in p y ≡ false

pub record HasLeafBehind (t : Table) (node mask x y : ℕ) : Type 0 where
  pub within : y < 2 ^ t.propositions
  pub own : IsOver mask y
  pub leaf : IsSome (leaf_of t node (x + y))

-- no letter y over the mask leads, together with x, to a leaf
abbrev pub HasNoLeafBehind : Table → ℕ → ℕ → ℕ → Type 0
HasNoLeafBehind t node mask x = (y : ℕ) → HasLeafBehind t node mask x y → ⊥

-- the leaf 1, and a letter behind x that leads to a leaf
pub record IsLeafBehind (t : Table) (node mask x leaf : ℕ) : Type 0 where
  pub one : leaf ≡ 1
  pub letter : ℕ
  pub there : HasLeafBehind t node mask x letter

-- the diagram depends only on propositions outside the mask
pub record IsProjection (s t : Table) (node mask made : ℕ) : Type 0 where
  pub others : (u v : ℕ) → AgreeOff mask u v → leaf_of t made u ≡ leaf_of t made v
  pub leaf : (x : ℕ) → IsClear mask x →
      MatchOption (leaf_of t made x) (HasNoLeafBehind s node mask x) (IsLeafBehind s node mask x)

-- x is a letter over the mask; the diagram depends only on propositions outside the mask
pub record IsBehind (s t : Table) (node mask x made : ℕ) : Type 0 where
  pub others : (u v : ℕ) → AgreeOff mask u v → leaf_of t made u ≡ leaf_of t made v
  pub leaf : (y : ℕ) → IsClear mask y → leaf_of t made y ≡ leaf_of s node (x + y)
