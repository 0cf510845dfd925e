-- In a list of different steps, the steps to one state are chained. When a step is appended, each chain is kept, and
-- the new step becomes the last of the chain of its state.
use Rattle.std.proofs.Common.{◌≡◌, ℕ, ◌+◌, ◌<◌, ◌≤◌, ◌⊎◌, inl, inr, List, [], ◌∷◌, ◌++◌, length, Some, arith, set}
use Rattle.std.proofs.Common.{get_or}
use Rattle.std.proofs.Common.{sym, refl, ◌∙◌, Bool, true, false, eqb}
use Rattle.std.specs.List.{slice_get}
use Rattle.std.proofs.lemmas.Option.{slice_get_within}
use Rattle.std.proofs.Math.Seq.{get_or-append_seam}
use Rattle.std.proofs.lemmas.List.{length-append, get_or_append_left, get_or-set_same, get_or-set_other}
use Rattle.ps_automaton.specs.Inner.Places.{AreDistinct}
use Rattle.ps_automaton.specs.Inner.StepTables.{ArePrevious, IsCount, IsStepTable}
use Rattle.ps_automaton.specs.declared.step.Step.{Step}
use Rattle.ps_automaton.proofs.StepsByState.DistinctEntries.{at_last}

pub table_of_none : IsStepTable [] [] []
table_of_none = record {
  distinct = λ i j x a b. cc;
  counts = λ state. record {
    within = omega arith;
    leads = λ place step e at. cc;
    none = λ place step low less at is. cc;
  };
  chained = record { one_each = refl; each = λ place step at. cc };
}

-- lists in which each state has the same entry
pub table_same : {steps : List Step} {last like previous : List ℕ} →
    ((k : ℕ) → get_or like k 0 ≡ get_or last k 0) → IsStepTable steps last previous → IsStepTable steps like previous
table_same {steps} same is = record {
  distinct = is.distinct;
  counts = λ state. rw (same state) (is.counts state);
  chained = is.chained;
}

-- one more step
module _ (steps : List Step) (t : Step) where
  before_end : (place : ℕ) (step : Step) → place < length steps → slice_get (steps ++ t ∷ []) place ≡ Some step →
      slice_get steps place ≡ Some step
  before_end place step less at = elim (at_last steps t place at) [
    | inl old ↦ old
    | inr new ↦ absurd (let is = new.1 in omega arith)
  ]

  count_kept : {state n count : ℕ} → n ≤ length steps → IsCount steps state n count →
      IsCount (steps ++ t ∷ []) state n count
  count_kept low is = record {
    within = is.within;
    leads = λ place step e at. is.leads place step e (before_end place step (let w = is.within in omega arith) at);
    none = λ place step from less at same. is.none place step from less (before_end place step omega arith at) same;
  }

  count_other : {state count : ℕ} → (t.state ≡ state → ⊥) → IsCount steps state (length steps) count →
      IsCount (steps ++ t ∷ []) state (length steps + 1) count
  count_other {state} other is = record {
    within = let w = is.within in omega arith;
    leads = λ place step e at. is.leads place step e (before_end place step (let w = is.within in omega arith) at);
    none = λ place step from less at same. elim (at_last steps t place at) [
      | inl old ↦ is.none place step from (slice_get_within steps place step old) old same
      | inr new ↦ other (cc (new.0, same))
    ];
  }

  count_end : IsCount (steps ++ t ∷ []) t.state (length steps + 1) (length steps + 1)
  count_end = record {
    within = omega arith;
    leads = λ place step e at. elim (at_last steps t place at) [
      | inl old ↦ absurd (let w = slice_get_within steps place step old in omega arith)
      | inr new ↦ cc (new.0)
    ];
    none = λ place step from less at same. omega arith;
  }

  more_distinct : AreDistinct steps → ((place : ℕ) → slice_get steps place ≡ Some t → ⊥) →
      AreDistinct (steps ++ t ∷ [])
  more_distinct is none i j x a b = at (at_last steps t i a) (at_last steps t j b)
    where
      at : (slice_get steps i ≡ Some x) ⊎ ((x ≡ t) × (i ≡ length steps)) →
          (slice_get steps j ≡ Some x) ⊎ ((x ≡ t) × (j ≡ length steps)) → i ≡ j
      at (inl p) (inl q) = is i j x p q
      at (inl p) (inr q) = absurd (none i (cc (p, q.0)))
      at (inr p) (inl q) = absurd (none j (cc (p.0, q)))
      at (inr p) (inr q) = cc (p.1, q.1)

  module _ {last previous : List ℕ} (is : IsStepTable steps last previous)
      (new : (place : ℕ) → slice_get steps place ≡ Some t → ⊥) (within : t.state < length last) where
    more_last : (state : ℕ) → IsCount (steps ++ t ∷ []) state (length steps + 1)
        (get_or (set last t.state (length steps + 1)) state 0)
    more_last state = at (eqb state t.state) refl
      where
        at : (same : Bool) → eqb state t.state ≡ same → IsCount (steps ++ t ∷ []) state (length steps + 1)
            (get_or (set last t.state (length steps + 1)) state 0)
        at true same =
            let e : state ≡ t.state = grind arith in
            rw (e, get_or-set_same last t.state (length steps + 1) 0 within) count_end
        at false other =
            let e : state ≡ t.state → ⊥ = grind arith in
            rw (get_or-set_other last t.state state (length steps + 1) 0 e)
            (count_other (λ is. e (sym is)) (is.counts state))

    more_previous : ArePrevious (steps ++ t ∷ []) (previous ++ get_or last t.state 0 ∷ [])
    more_previous = record {
      one_each = simp length-append (let e = is.chained.one_each in omega arith);
      each = λ place step at. elim (at_last steps t place at) [
        | inl old ↦ (let low : place < length previous = grind (arith, slice_get_within steps place step old) in
            rw (get_or_append_left previous (get_or last t.state 0 ∷ []) 0 place low)
            (count_kept omega arith (is.chained.each place step old)))
        | inr end ↦ (let last_is = get_or-append_seam previous (get_or last t.state 0) [] 0 in
            let e : place ≡ length previous = (let n = is.chained.one_each in let i = end.1 in omega arith) in
            let at : get_or (previous ++ get_or last t.state 0 ∷ []) place 0 ≡ get_or last t.state 0 = rw e last_is in
            rw (at, end.0, end.1) (count_kept omega arith (is.counts t.state)))
      ];
    }

    pub table_more : IsStepTable (steps ++ t ∷ []) (set last t.state (length steps + 1))
        (previous ++ get_or last t.state 0 ∷ [])
    table_more = record {
      distinct = more_distinct is.distinct new;
      counts = λ state. simp length-append (more_last state);
      chained = more_previous;
    }

-- the same, where the lists are given by equations
pub table_pushed : {steps more : List Step} {last previous chain : List ℕ} (like : List ℕ) (t : Step) {count place : ℕ} →
    IsStepTable steps last previous → ((k : ℕ) → get_or like k 0 ≡ get_or last k 0) → t.state < length like →
    ((place : ℕ) → slice_get steps place ≡ Some t → ⊥) → count ≡ get_or last t.state 0 → place ≡ length steps →
    more ≡ steps ++ t ∷ [] → chain ≡ previous ++ count ∷ [] → IsStepTable more (set like t.state (place + 1)) chain
table_pushed {steps} like t is same within new count_is place_is more_is chain_is =
    let e = count_is ∙ sym (same t.state) in
    rw (more_is, chain_is, e, place_is) (table_more steps t (table_same same is) new within)
