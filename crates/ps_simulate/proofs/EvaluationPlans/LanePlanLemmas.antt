-- The evaluation plan of a circuit for 256 simultaneous runs gives new indices to the values of the gates, and computes
-- the same values as the plan for a single run.
use Rattle.std.proofs.Common.{◌≡◌, ℕ, zero, suc, ◌+◌, ◌-◌, ◌/◌, ◌^◌, ◌⊎◌, ◌<◌, ◌≤◌, Bool, inl, inr, List, [], ◌∷◌, ◌++◌}
use Rattle.std.proofs.Common.{map, take, drop, length, get_or, refl, ap, ◌∙◌, arith, All, rules}
use Rattle.std.proofs.Common.{get_or-set_same, get_or-set_other}
use Rattle.std.specs.Prelude.{slice_set}
use Rattle.std.specs.Int.Bits.{bit_and}
use Rattle.std.specs.Simd.Lanes.{zip2}
use Rattle.std.proofs.lemmas.List.{length-map, length-take-le, map-append, get_or_default, drop_all, take_more}
use Rattle.std.proofs.lemmas.List.Elements.{All-from_get_or}
use Rattle.std.proofs.lemmas.Bool.{cases_lt}
use Rattle.std.proofs.lemmas.Option.{slice_get-get_or}
use Rattle.ps_circuit.specs.Circuits.{CircuitData, IsCircuit}
use Rattle.ps_simulate.specs.declared.plan.Wire.{Wire}
use Rattle.ps_simulate.specs.declared.plan.Row.{Row}
use Rattle.ps_simulate.specs.declared.lane_plan.Operands.{Operands}
use Rattle.ps_simulate.specs.Lanes.{lane_bit, lane_of}
use Rattle.ps_simulate.specs.Plans.{variables, read, work_out, AreGateRows, IsRowInTable}
use Rattle.ps_simulate.specs.LanePlans.{wire_in, rows_from, moved, move_wire, move_row, AreKept, AreInOrder, AreOnce}
use Rattle.ps_simulate.specs.LanePlans.{IsGateRow, AreMoved}
use Rattle.ps_simulate.proofs.LapsOfRuns.CountLemmas.{few_below}
use Rattle.ps_simulate.proofs.EvaluationPlans.LaneLemmas.{worked_on}
use Rattle.ps_simulate.proofs.EvaluationPlans.PlacesLemmas.{variables_once, variables_at}
use Rattle.ps_simulate.proofs.EvaluationPlans.RowLemmas.{length-variables, gate_within, length-rows, row_of_gate}
use Rattle.ps_simulate.proofs.EvaluationPlans.RowLemmas.{target_is}
use Rattle.ps_simulate.proofs.EvaluationPlans.RowLemmas.{IsScheduled-rows}
use Rattle.ps_simulate.specs.NeededGates.{numbered_row, no_row}

module _ {c : CircuitData} (is : IsCircuit c) where
  -- each variable of a circuit is at most the circuit's greatest variable
  variables_below : (k : ℕ) → k < length (variables c) → get_or (variables c) k 0 < c.most + 1
  variables_below k h = search (rules, length-map, variables_at)

  pub few_variables : length (variables c) ≤ 2 ^ 31
  few_variables =
      let le : length (variables c) ≤ c.most + 1 = search (rules, few_below, variables_below, variables_once) in
      omega (arith, is.draft.limit)

  module _ (rows : List Row) (are : AreGateRows c rows) where
    abbrev pub front : ℕ
    front = 1 + length c.inputs + length c.latches

    -- an evaluation plan has at most as many rows as the circuit has gates
    pub few_rows : length rows ≤ length c.gates
    few_rows = grind (arith, few_below, slice_get-get_or, length-rows is are)

    pub gate_row : (k : ℕ) → k < length rows → IsGateRow front (length (variables c)) (numbered_row rows k)
    gate_row k lt = grind (arith, target_is is are k lt, gate_within is are k lt, length-variables c)

    pub gate_rows : All (IsGateRow front (length (variables c))) rows
    gate_rows = All-from_get_or (IsGateRow front (length (variables c))) rows no_row gate_row

    pub rows_once : AreOnce rows
    rows_once k l d lt within e = grind (arith, IsScheduled-rows is are, at k (omega arith), at l within)
      where
        at : (k : ℕ) → k < length rows → (numbered_row rows k).target ≡ (get_or rows k d).target
        at k lt = ap (λ (r : Row). r.target) (get_or_default rows k no_row d lt)

    -- each index of the table of values belongs either to the constant, an input or a latch, or to a value that a row
    -- of the plan computes
    whose : (p : ℕ) → p < length (variables c) →
        (p < front) ⊎ ((k : ℕ) × (k < length rows) × (p ≡ (numbered_row rows k).target))
    whose p lt = elim (cases_lt p front) [
      | inl less ↦ inl less
      | inr behind ↦ (let there = row_of_gate is are (p - front) (omega (arith, length-variables c)) in
          inr (there.0, there.1, omega (arith, target_is is are there.0 there.1, there.2)))
    ]

    module _ (places : List ℕ) (each : length places ≡ length (variables c)) (kept : AreKept front places)
        (in_order : AreInOrder front places rows) where
      goes : {p : ℕ} (k : ℕ) → k < length rows → p ≡ (numbered_row rows k).target → moved places p ≡ front + k
      goes k lt e = ap (moved places) e ∙ in_order k no_row lt

      within_table : (p : ℕ) → p < length (variables c) → moved places p < length (variables c)
      within_table p lt = elim (whose p lt) [
        | inl less ↦ omega (arith, kept p less)
        | inr w ↦ omega (arith, goes w.0 w.1 w.2, few_rows, length-variables c)
      ]

      one_each : (p q : ℕ) → p < length (variables c) → q < length (variables c) →
          moved places p ≡ moved places q → p ≡ q
      one_each p q hp hq same = elim (whose p hp) [
        | inl lp ↦ elim (whose q hq) [
          | inl lq ↦ omega (arith, kept p lp, kept q lq, same)
          | inr w ↦ absurd (omega (arith, kept p lp, goes w.0 w.1 w.2, same))
        ]
        | inr v ↦ grind (arith, whose q hq, goes v.0 v.1 v.2)
      ]

      pub AreMoved-rows : AreMoved (length (variables c)) front places
      AreMoved-rows = record { each = each; within = within_table; once = one_each; kept = kept }

    -- the next three lemmas hold for any list `given` that equals the plan's list of rows, any `size` that equals the
    -- length of the table of values, and any `f` that equals `front`
    pub gate_rows_at : {size f : ℕ} {given : List Row} → size ≡ length (variables c) → f ≡ front → given ≡ rows →
        All (IsGateRow f size) given
    gate_rows_at size_is front_is e k d lt = search (rules, gate_rows)

    pub rows_once_at : {given : List Row} → given ≡ rows → AreOnce given
    rows_once_at e = rw e rows_once

    pub AreMoved_at : {size f : ℕ} {given : List Row} {places : List ℕ} → size ≡ length (variables c) → f ≡ front →
        given ≡ rows → length places ≡ size → AreKept f places → AreInOrder f places given → AreMoved size f places
    AreMoved_at {places} size_is front_is e each kept in_order = search (rules, AreMoved-rows)

pub moved_small : {size front : ℕ} {places : List ℕ} → AreMoved size front places → size ≤ 2 ^ 31 →
    All (λ p. p < 2 ^ 31) places
moved_small {places} are few k d lt = search (rules, get_or_default)

-- `rows_from` gives one row of the evaluation plan for each gate
pub length-rows_from : (place : ℕ) (gates : List Operands) → length (rows_from place gates) ≡ length gates
length-rows_from place [] = refl
length-rows_from place (g ∷ gates) = ap suc (length-rows_from (place + 1) gates)

abbrev pub no_operands : Operands
no_operands = record { first = 0; second = 0 }

abbrev pub row_of_operands : ℕ → Operands → Row
row_of_operands place g = record { target = place; first = wire_in g.first; second = wire_in g.second }

pub rows_from_at : (place : ℕ) (gates : List Operands) (k : ℕ) → k < length gates →
    get_or (rows_from place gates) k no_row ≡ row_of_operands (place + k) (get_or gates k no_operands)
rows_from_at place [] k lt = absurd (omega arith)
rows_from_at place (g ∷ gates) zero lt = ap (λ n. row_of_operands n g) (omega arith)
rows_from_at place (g ∷ gates) (suc k) lt = grind (arith, rows_from_at (place + 1) gates k (omega arith))

abbrev row_of_wires : ℕ → Wire → Wire → Row
row_of_wires place a b = record { target = place; first = a; second = b }

rows_from-append : (place : ℕ) (gates : List Operands) (g : Operands) →
    rows_from place (gates ++ g ∷ []) ≡ rows_from place gates ++ row_of_operands (place + length gates) g ∷ []
rows_from-append place [] g = ap (λ n. row_of_operands n g ∷ []) (omega arith)
rows_from-append place (h ∷ gates) g = grind (arith, rows_from-append (place + 1) gates g)

-- let the list `gates` have the first k rows of the plan, with renumbered indices; if row k is appended with renumbered
-- indices, the list has the first k + 1 rows
pub rows_more : (rows : List Row) (places : List ℕ) (gates : List Operands) {more : List Operands}
    (first second front k : ℕ) → k < length rows → AreInOrder front places rows →
    wire_in first ≡ move_wire places (get_or rows k no_row).first →
    wire_in second ≡ move_wire places (get_or rows k no_row).second →
    more ≡ gates ++ record { first = first; second = second } ∷ [] →
    rows_from front gates ≡ map (move_row places) (take k rows) →
    rows_from front more ≡ map (move_row places) (take (k + 1) rows)
rows_more rows places gates first second front k lt in_order at_first at_second grown before =
    let r = get_or rows k no_row in
    let g : Operands = record { first = first; second = second } in
    grind (
      arith,
      length-rows_from,
      length-map,
      length-take-le,
      rows_from-append front gates g,
      take_more rows k no_row lt,
      map-append (move_row places) (take k rows) (r ∷ []),
    )

-- Let a renumbering keep the indices below `front`, and give the values of the first n rows successive new indices from
-- `front` on. Both still hold, with n + 1 instead of n, once the value of row n gets the index front + n.
module _ (rows : List Row) (places : List ℕ) (front : ℕ) {size : ℕ} (n : ℕ) {target : ℕ} (lt : n < length rows)
    (e : target ≡ (get_or rows n no_row).target) (gates : All (IsGateRow front size) rows) (many : length places ≡ size)
  where
    pub kept_more : AreKept front places → AreKept front (slice_set places target (front + n))
    kept_more kept p less = search rules

    pub order_more : AreOnce rows → ((k : ℕ) (d : Row) → k < n → moved places (get_or rows k d).target ≡ front + k) →
        (k : ℕ) (d : Row) → k < n + 1 → moved (slice_set places target (front + n)) (get_or rows k d).target ≡ front + k
    order_more once before k d less = go (cases_lt k n)
      where
        default : (m : ℕ) → m < length rows → (get_or rows m d).target ≡ (get_or rows m no_row).target
        default m lm = ap (λ (r : Row). r.target) (get_or_default rows m d no_row lm)

        go : (k < n) ⊎ (n ≤ k) → moved (slice_set places target (front + n)) (get_or rows k d).target ≡ front + k
        go h = grind (arith, get_or-set_other, default, get_or-set_same)

-- if one gate is evaluated in all 256 lanes at once, it is evaluated in each single lane
pub gate_on : (front : ℕ) (gates : List Operands) (values initial : List (List ℕ)) (a b : List ℕ) (k lane : ℕ) →
    lane < 256 → k < length gates → length a ≡ 4 → length b ≡ 4
    → lane_bit a lane ≡ read (lane_of values lane) (wire_in (get_or gates k no_operands).first) →
    lane_bit b lane ≡ read (lane_of values lane) (wire_in (get_or gates k no_operands).second)
    → work_out (drop k (rows_from front gates)) (lane_of values lane) ≡ work_out (rows_from front gates)
    (lane_of initial lane)
    → work_out (drop (k + 1) (rows_from front gates)) (lane_of (slice_set values (front + k) (zip2 bit_and a b)) lane) ≡
    work_out (rows_from front gates) (lane_of initial lane)
gate_on front gates values initial a b k lane less lt la lb first second before =
    let rows = rows_from front gates in
    let at : get_or rows k no_row ≡ row_of_operands (front + k) (get_or gates k no_operands) =
    rows_from_at front gates k lt in
    grind (arith, worked_on, length-rows_from)

-- the literals that a gate reads have indices within the table of values
pub gate_fits : (front size : ℕ) (gates : List Operands) (k : ℕ) → k < length gates →
    All (IsRowInTable size) (rows_from front gates)
    → ((get_or gates k no_operands).first / 2 < size) × ((get_or gates k no_operands).second / 2 < size)
gate_fits front size gates k lt within = grind (arith, length-rows_from front gates, rows_from_at front gates k lt)

-- the values of the gates have indices within the table of values
pub gates_end : (front size : ℕ) (gates : List Operands) (rows : List Row) (places : List ℕ) →
    rows_from front gates ≡ map (move_row places) rows → front + length rows ≤ size → front + length gates ≤ size
gates_end front size gates rows places e fit = search (rules, length-rows_from, length-map)

-- after the loop over all gates, all rows of the plan are evaluated
pub all_done : (front : ℕ) (gates : List Operands) (k : ℕ) → length gates ≤ k → (values initial : List Bool)
    → work_out (drop k (rows_from front gates)) values ≡ work_out (rows_from front gates) initial →
    values ≡ work_out (rows_from front gates) initial
all_done front gates k le values initial e = search (rules, drop_all, length-rows_from)
