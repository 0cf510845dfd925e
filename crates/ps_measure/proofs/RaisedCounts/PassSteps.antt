-- Lemmas about the steps of a pass that raises the values of components along all links. The values are stored in lists
-- of numbers.
use Rattle.std.proofs.Common.{◌≡◌, ℕ, ◌+◌, ◌-◌, ◌*◌, ◌<◌, ◌≤◌, ◌∙◌, List, length, get_or, inl, inr, sym, ap, rules}
use Rattle.std.proofs.Common.{arith, refl, Option, None, Some, eqb, unwrap_or}
use Rattle.std.specs.Prelude.{slice_get, slice_index, slice_set}
use Rattle.std.specs.Bool.{OnFalse, OnTrue}
use Rattle.std.proofs.lemmas.Bool.{cases_eq, OnFalse_from, OnTrue_from, eqb-true, eqb-false}
use Rattle.std.proofs.lemmas.Grind.{common_steps}
use Rattle.std.proofs.lemmas.List.{get_or_read}
use Rattle.std.proofs.lemmas.Option.{slice_get-get_or, get_or_from_slice_get}
use Rattle.ps_components.specs.Graphs.{Digraph, Link}
use Rattle.ps_components.specs.ComponentLists.{ComponentsData, AreComponents, AreMet, IsIn}
use Rattle.ps_measure.specs.Sums.{sum_below}
use Rattle.ps_measure.specs.Inner.Remaining.{LowData, low_graph, low_weight}
use Rattle.ps_measure.specs.Inner.Columns.{AreRoots, AreRaised, IsColumn, IsCounting, IsPassed, inside, across}
use Rattle.ps_measure.specs.Inner.Columns.{GrowsBelow}
use Rattle.ps_measure.specs.Inner.Columns.{ArePassedFrom, IsLost, AreLeast, value_of}
use Rattle.ps_measure.proofs.RaisedCounts.Summing.{sum_below-bound}
use Rattle.ps_measure.proofs.CountRows.Rows.{weight_light}
use Rattle.ps_measure.proofs.CountRows.Writing.{written}
use Rattle.ps_measure.proofs.RaisedCounts.Passing.{number_within, raise_column, raise_fits, passed_by_raise, passed_on}
use Rattle.ps_measure.proofs.RaisedCounts.Passing.{passed_from_here, root_column, raised_before, least_counts}

-- if one value before index `number` is raised, no value decreases, and the values from this index on do not change
-- (`GrowsBelow`)
pub grows_set : {values : List ℕ} {before number y value : ℕ} → before < number → y ≡ get_or values before y →
    y < value → GrowsBelow values (slice_set values before value) number
grows_set {values} {before} {number} {y} {value} below at more = grind (arith, common_steps)

-- ## One link, whose ends are in known components

module _ (low : LowData) {c : ComponentsData} {values : List ℕ} {from number to before weight : ℕ} {o : Option ℕ}
    (counting : IsCounting (low_graph low) (low_weight low) c values) (link : Link (low_graph low) from to)
    (from_in : IsIn c from number) (known : slice_get c.numbers to ≡ Some o) (before_is : before ≡ unwrap_or o number)
    (weight_is : weight ≡ low_weight low to) where
  -- the target of the link is in the component with the number `before`, which is at most `number`, the number of the
  -- source's component
  before_in : IsIn c to before × (before ≤ number)
  before_in =
      let falls = counting.components.falls from number to from_in link in
      grind arith

  same_component : number ≤ before → IsIn c to number
  same_component more = (let e : number ≡ before = omega (arith, before_in.1) in rw e before_in.0)

  pub step_inside : number ≤ before → OnFalse (eqb weight 1) (IsPassed (low_weight low) c values from to)
  step_inside more = OnFalse_from (eqb weight 1) (IsPassed (low_weight low) c values from to) (λ e. inside number
      from_in (same_component more) (omega (arith, eqb-false weight 1 e, weight_is, weight_light low to)))

  pub step_lost : number ≤ before → OnTrue (eqb weight 1) (IsLost (low_graph low) (low_weight low) c from to)
  step_lost more = search (rules, OnTrue_from, same_component, eqb-true)

  -- the case of a link whose target is in an earlier component than its source
  module _ {value : ℕ} (read : value ≡ get_or values number value) (less : before < number) where
    is_sum : value + weight ≡ slice_index values number + low_weight low to
    is_sum = search (rules, number_within, get_or_read)

    pub step_fits : value + weight ≤ length low.sources
    step_fits =
        let all : sum_below (low_weight low) (length low.sources) ≤ length low.sources * 1 =
        search (rules, sum_below-bound, weight_light) in
        omega (arith, is_sum, raise_fits counting.components counting.column to before_in.0 less, all)

    pub step_counting : IsCounting (low_graph low) (low_weight low) c (slice_set values before (value + weight))
    step_counting =
        rw is_sum (grind (arith, raise_column counting.components counting.column to before_in.0 less link from_in))

    pub step_raised : IsPassed (low_weight low) c (slice_set values before (value + weight)) from to
    step_raised = rw is_sum (passed_by_raise counting.components counting.column to before_in.0 less from_in)

    pub step_enough : {y : ℕ} → y ≡ get_or values before y → value + weight ≤ y →
        IsPassed (low_weight low) c values from to
    step_enough {y} at enough =
        let within = number_within counting.components counting.column to before_in.0 in
        across number before from_in before_in.0 less
        (omega (arith, enough, is_sum, get_or_read values before y within at 0))

-- ## The links of one vertex

pub pass_one : (low : LowData) {c c' : ComponentsData} {old new : List ℕ} {from number : ℕ} (place : ℕ) {to : ℕ} →
    c' ≡ c → IsIn c from number
    → ((t : ℕ) (link : Link (low_graph low) from t) → link.place < place → IsPassed (low_weight low) c old from t)
    → (low_graph low).target from place ≡ Some to → GrowsBelow old new number → IsPassed (low_weight low) c' new from to
    → (t : ℕ) (link : Link (low_graph low) from t) → link.place < place + 1 → IsPassed (low_weight low) c' new from t
pass_one low {from = from} place {to} same is passed target grown now t link before = elim (cases_eq link.place place) [
  | inl here ↦ (let e : t ≡ to = one (sym link.target ∙ ap ((low_graph low).target from) here ∙ target) in rw e now)
  | inr apart ↦ rw same (passed_on is (omega arith) grown (passed t link (omega (arith, before, apart))))
]
  where
    one : {x y : ℕ} → Some x ≡ Some y → x ≡ y
    one e = cc

pub pass_none : (low : LowData) {c : ComponentsData} {values : List ℕ} {from : ℕ} (place : ℕ)
    → ((t : ℕ) (link : Link (low_graph low) from t) → link.place < place → IsPassed (low_weight low) c values from t)
    → (low_graph low).target from place ≡ None
    → (t : ℕ) (link : Link (low_graph low) from t) → link.place < place + 1 → IsPassed (low_weight low) c values from t
pass_none low {from = from} place passed none t link before = elim (cases_eq link.place place) [
  | inl here ↦ absurd (clash (sym none ∙ ap ((low_graph low).target from) (sym here) ∙ link.target))
  | inr apart ↦ passed t link (omega (arith, before, apart))
]
  where
    clash : {x : ℕ} → None ≡ Some x → ⊥
    clash e = cc

-- ## One vertex of the order

pub settle_one : (low : LowData) {c c' : ComponentsData} {old new : List ℕ} (place : ℕ) {w k : ℕ} → c' ≡ c →
    AreComponents (low_graph low) c → 0 < place → slice_get c.order (place - 1) ≡ Some w → IsIn c w k →
    GrowsBelow old new k → ArePassedFrom (low_graph low) (low_weight low) c old place →
    ((v : ℕ) → Link (low_graph low) w v → IsPassed (low_weight low) c' new w v) →
    ArePassedFrom (low_graph low) (low_weight low) c' new (place - 1)
settle_one low place same components some at is grown before here =
    let e : place - 1 + 1 ≡ place = omega arith in
    rw same (passed_from_here (low_weight low) (place - 1) components at is grown (rw e before)
    (λ v link. rw same at (here v link)))

pub grows_within : {old new : List ℕ} {k n : ℕ} → k ≤ n → GrowsBelow old new k → GrowsBelow old new n
grows_within at_most grown = record { grows = grown.grows; same = λ j later. grown.same j (omega arith) }

-- ## The start

pub roots_within : (low : LowData) (roots : List ℕ) (i v : ℕ) →
    ((w v : ℕ) → Link (low_graph low) w v → v < length low.sources) → AreRoots (low_graph low) (low_weight low) roots →
    slice_get roots i ≡ Some v → v < length low.sources
roots_within low roots i v within are at = (let link = are.sound i v at in within link.0 v link.1)

-- the components of the first n roots have values of at least 1
pub record RaisedBelow (c : ComponentsData) (values roots : List ℕ) (n : ℕ) : Type 0 where
  pub raised : (i v k : ℕ) → i < n → slice_get roots i ≡ Some v → IsIn c v k → 1 ≤ slice_index values k

pub root_step : (low : LowData) {roots : List ℕ} {c : ComponentsData} {values : List ℕ} {i number : ℕ} →
    AreComponents (low_graph low) c → AreRoots (low_graph low) (low_weight low) roots → i < length roots →
    slice_get c.numbers (get_or roots i 0) ≡ Some (Some number) → IsColumn (low_graph low) (low_weight low) c values →
    RaisedBelow c values roots i → IsColumn (low_graph low) (low_weight low) c (slice_set values number 1) ×
    RaisedBelow c (slice_set values number 1) roots (i + 1)
root_step low {roots} {c} {values} {i} {number} components are within is column raised =
    let root = are.sound i (get_or roots i 0) (slice_get-get_or roots i 0 within) in
    (root_column components column _ is root.1 root.2, record { raised = more })
  where
    more : (j v k : ℕ) → j < i + 1 → slice_get roots j ≡ Some v → IsIn c v k →
        1 ≤ slice_index (slice_set values number 1) k
    more j v k below at in_k = search (rules, written, number_within, cases_eq, get_or_from_slice_get)

-- each root of the search was reached, so it has a component
pub root_met : {g : Digraph} (roots : List ℕ) (c : ComponentsData) {i : ℕ} {o : Option ℕ} → AreMet g roots c →
    i < length roots → slice_get c.numbers (get_or roots i 0) ≡ Some o → ((n : ℕ) → o ≡ Some n → ⊥) → ⊥
root_met roots c {i} met within is none =
    let found = (met (get_or roots i 0)).1 (i, get_or roots i 0, slice_get-get_or roots i 0 within, inl refl) in
    none found.0 (cc (found.1))

-- ## The end

pub settled : (low : LowData) {roots : List ℕ} {c c' : ComponentsData} {old new : List ℕ} {n : ℕ} →
    AreRoots (low_graph low) (low_weight low) roots → AreMet (low_graph low) roots c → AreRaised c old roots → c' ≡ c →
    IsCounting (low_graph low) (low_weight low) c' new → GrowsBelow old new n →
    ArePassedFrom (low_graph low) (low_weight low) c' new 0 →
    AreLeast (low_graph low) (low_weight low) (value_of c' new)
settled low {roots} {c} are met raised same counting grown passed = least_counts (weight_light low) counting.components
    are (rw same met) counting.column (rw same (raised_before c roots grown raised)) passed
