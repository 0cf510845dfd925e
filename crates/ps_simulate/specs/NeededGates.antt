-- The gates that a step needs: a gate is needed if an output, a latch's next value or another needed gate reads it. A
-- single run evaluates only needed gates; 256 runs at once evaluate all gates.
use Rattle.std.specs.Prelude.{◌≡◌, ℕ, ◌<◌, Bool, true, false, List, length, slice_index_or, All}
use Rattle.std.specs.List.{filter}
use Rattle.ps_simulate.specs.declared.plan.Wire.{Wire}
use Rattle.ps_simulate.specs.declared.plan.Row.{Row}
use Rattle.ps_simulate.specs.declared.plan.Plan.{Plan}

abbrev pub no_wire : Wire
no_wire = record { place = 0; is_negated = false }

abbrev pub no_row : Row
no_row = record { target = 0; first = no_wire; second = no_wire }

abbrev pub numbered_row : List Row → ℕ → Row
numbered_row rows k = slice_index_or rows k no_row

-- no two rows have the same target, and a row reads targets only of earlier rows
pub record IsScheduled (rows : List Row) : Type 0 where
  pub once : (k l : ℕ) → k < length rows → l < length rows →
      (numbered_row rows k).target ≡ (numbered_row rows l).target → k ≡ l
  pub first_behind : (k l : ℕ) → k < length rows → l < length rows →
      (numbered_row rows k).first.place ≡ (numbered_row rows l).target → l < k
  pub second_behind : (k l : ℕ) → k < length rows → l < length rows →
      (numbered_row rows k).second.place ≡ (numbered_row rows l).target → l < k

-- the list `needed` marks the value at the index `place` as needed
abbrev pub Needs : List Bool → ℕ → Type 0
Needs needed place = slice_index_or needed place false ≡ true

abbrev pub NeedsWire : List Bool → Wire → Type 0
NeedsWire needed wire = Needs needed wire.place

-- if `needed` marks the value of the row, it also marks the two values that the row reads
pub record NeedsWhatItReads (needed : List Bool) (r : Row) : Type 0 where
  pub first : Needs needed r.target → NeedsWire needed r.first
  pub second : Needs needed r.target → NeedsWire needed r.second

-- `needed` marks each value that an output, a latch's next value or a row with a marked value reads
pub record AreNeeded (plan : Plan) (needed : List Bool) : Type 0 where
  pub by_outputs : All (NeedsWire needed) plan.outputs.items
  pub by_nexts : All (NeedsWire needed) plan.nexts.items
  pub by_rows : All (NeedsWhatItReads needed) plan.rows.items

-- those of the given rows whose values the list `needed` marks
abbrev pub needed_rows : List Bool → List Row → List Row
needed_rows needed rows = filter (λ r. slice_index_or needed r.target false) rows

-- `cut` is the plan `whole`, but with only the rows whose values the list `needed` marks
pub record IsPlanOfNeeded (whole cut : Plan) : Type 0 where
  pub needed : List Bool
  pub are_needed : AreNeeded whole needed
  pub size_is : cut.size ≡ whole.size
  pub rows_are : cut.rows.items ≡ needed_rows needed whole.rows.items
  pub outputs_are : cut.outputs.items ≡ whole.outputs.items
  pub nexts_are : cut.nexts.items ≡ whole.nexts.items
