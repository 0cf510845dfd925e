-- Evaluating the rows (gates) of an evaluation plan in a table of values with renumbered indices gives the same values
-- as in the original table.
use Rattle.std.proofs.Common.{◌≡◌, ℕ, suc, ◌+◌, ◌<◌, ◌≤◌, Bool, false, not, cond, List, []}
use Rattle.std.proofs.Common.{◌∷◌, map, length, get_or, refl, sym, ap, ap₂, ◌∙◌, arith, All, length-set, rules}
use Rattle.std.specs.Prelude.{slice_set}
use Rattle.std.proofs.lemmas.Bool.{cases_eq}
use Rattle.std.proofs.lemmas.List.{length-map, get_or-map, ext_get_or}
use Rattle.ps_simulate.specs.declared.plan.Wire.{Wire}
use Rattle.ps_simulate.specs.declared.plan.Row.{Row}
use Rattle.ps_simulate.specs.Plans.{IsRowInTable, IsWorkedOut, read, work_row, work_out}
use Rattle.ps_simulate.specs.LanePlans.{moved, move_wire, move_row, unmoved, AreMoved}

length-unmoved : (places : List ℕ) (values : List Bool) → length (unmoved places values) ≡ length places
length-unmoved places values = length-map places (λ p. get_or values p false)

-- the value at an old index is the value that the renumbered table has at the new index
pub unmoved_at : (places : List ℕ) (values : List Bool) (p : ℕ) → p < length places →
    get_or (unmoved places values) p false ≡ get_or values (moved places p) false
unmoved_at places values p lt = get_or-map (λ q. get_or values q false) places p 0 false lt

pub read-unmoved : (places : List ℕ) (values : List Bool) (w : Wire) → w.place < length places →
    read (unmoved places values) w ≡ read values (move_wire places w)
read-unmoved places values w lt = ap (λ (b : Bool). cond w.is_negated (not b) b) (unmoved_at places values w.place lt)

pub reads-unmoved : (places : List ℕ) (values : List Bool) (wires : List Wire) →
    All (λ w. w.place < length places) wires
    → map (read values) (map (move_wire places) wires) ≡ map (read (unmoved places values)) wires
reads-unmoved places values [] within = refl
reads-unmoved places values (w ∷ ws) within = ap₂ ◌∷◌ (sym (read-unmoved places values w (within 0 w (omega arith))))
    (reads-unmoved places values ws (λ k d lt. within (suc k) d (omega arith)))

module _ {size front : ℕ} {places : List ℕ} (are : AreMoved size front places) where
  -- setting a value at a new index in the renumbered table is setting the value at the old index in the original table
  unmoved-set : (values : List Bool) (t : ℕ) (x : Bool) → t < size → length values ≡ size
      → unmoved places (slice_set values (moved places t) x) ≡ slice_set (unmoved places values) t x
  unmoved-set values t x lt many = ext_get_or false _ _ (grind (arith, length-unmoved, length-set))
      (λ k less. at k (omega (arith, are.each, length-unmoved places (slice_set values (moved places t) x))))
    where
      at : (k : ℕ) → k < size → get_or (unmoved places (slice_set values (moved places t) x)) k false ≡ get_or
          (slice_set (unmoved places values) t x) k false
      at k less = search (rules, cases_eq, unmoved_at, length-unmoved)

  pub work_out-unmoved : (rows : List Row) (values : List Bool) → length values ≡ size → All (IsRowInTable size) rows
      → unmoved places (work_out (map (move_row places) rows) values) ≡ work_out rows (unmoved places values)
  work_out-unmoved [] values many within = refl
  work_out-unmoved (r ∷ rows) values many within =
      let here : IsRowInTable size r = within 0 r (omega arith) in
      let next = work_row values (move_row places r) in
      work_out-unmoved rows next (grind (arith, length-set)) (λ k d lt. within (suc k) d (omega arith))
      ∙ ap (work_out rows) (grind (arith, unmoved-set, read-unmoved))

  -- evaluating rows with renumbered indices gives the same values as evaluating the original rows
  pub IsWorkedOut-unmoved : (rows : List Row) {moved_rows : List Row} {inputs latches values : List Bool} →
      moved_rows ≡ map (move_row places) rows → All (IsRowInTable size) rows
      → 1 + length inputs + length latches ≤ front → front ≤ size → IsWorkedOut moved_rows inputs latches size values →
      IsWorkedOut rows inputs latches size (unmoved places values)
  IsWorkedOut-unmoved rows {inputs} e within room fit worked =
      search (rules, length-unmoved, work_out-unmoved, unmoved_at)
