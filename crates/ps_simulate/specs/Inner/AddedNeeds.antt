-- The code records which values a step needs, in a list with a bit for the index of each value.
use Rattle.std.specs.Prelude.{ℕ, Bool, List, All}
use Rattle.ps_simulate.specs.NeededGates.{Needs}

-- the new list records what each item (a wire or a row) needs, as `Has` states, and what the old list records
pub record AddsNeeds {X : Type 0} (Has : List Bool → X → Type 0) (old new : List Bool) (items : List X) : Type 0 where
  pub needed : All (Has new) items
  pub kept : (p : ℕ) → Needs old p → Needs new p
