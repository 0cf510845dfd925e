-- A step may leave out rows (gates) of the evaluation plan that no output, no latch's next value and no remaining row
-- reads. Without these rows, the step has the same outputs and the same next values of the latches.
use Rattle.std.proofs.Common.{◌≡◌, ◌≢◌, ℕ, suc, ◌<◌, ◌≤◌, ◌⊎◌, ◌&&◌, inl, inr, Bool, true, false, List, [], ◌∷◌, map}
use Rattle.std.proofs.Common.{length}
use Rattle.std.proofs.Common.{get_or, refl, sym, subst, ap, ap₂, ◌∙◌, arith, All, length-set, get_or-set_same}
use Rattle.std.proofs.Common.{get_or-set_other}
use Rattle.std.specs.Prelude.{slice_set}
use Rattle.std.proofs.lemmas.Bool.{cases_Bool, cases_eq, cases_lt}
use Rattle.std.proofs.lemmas.List.Elements.{All-filter, All-from_get_or}
use Rattle.ps_circuit.specs.Circuits.{CircuitData, IsCircuit}
use Rattle.ps_circuit.specs.Values.{Steps}
use Rattle.ps_simulate.specs.declared.plan.Wire.{Wire}
use Rattle.ps_simulate.specs.declared.plan.Row.{Row}
use Rattle.ps_simulate.specs.declared.plan.Plan.{Plan}
use Rattle.ps_simulate.specs.NeededGates.{IsPlanOfNeeded, IsScheduled, Needs, NeedsWhatItReads, NeedsWire, needed_rows}
use Rattle.ps_simulate.specs.NeededGates.{no_row, numbered_row}
use Rattle.ps_simulate.specs.Plans.{IsPlan, IsRowInTable, IsWorkedOut, read, variables, work_out, work_row}
use Rattle.ps_simulate.specs.Tables.{IsValueTable}
use Rattle.ps_simulate.proofs.EvaluationPlans.StepLemmas.{Steps-worked_out, nexts_within, outputs_within, rows_within}
use Rattle.ps_simulate.proofs.EvaluationPlans.RowLemmas.{target_is}
use Rattle.ps_simulate.proofs.EvaluationPlans.WorkLemmas.{length-work_out, read-same, work_out-other}

-- ---- the values that are needed

pub needs_more : (needed : List Bool) (q p : ℕ) → q < length needed → Needs needed p → Needs (slice_set needed q true) p
needs_more needed q p lt n = elim (cases_eq p q) [
  | inl same ↦ grind (arith, get_or-set_same needed q true false lt)
  | inr differ ↦ get_or-set_other needed q p true false differ ∙ n
]

needs_less : (needed : List Bool) (q p : ℕ) → Needs (slice_set needed q true) p → Needs needed p ⊎ (p ≡ q)
needs_less needed q p n = elim (cases_eq p q) [
  | inl same ↦ inr same
  | inr differ ↦ inl (sym (get_or-set_other needed q p true false differ) ∙ n)
]

-- the list `needed`, which marks the needed values, with marks added for the two values that row r reads
abbrev pub with_sides : List Bool → Row → List Bool
with_sides needed r = slice_set (slice_set needed r.first.place true) r.second.place true

pub needs_sides : (needed : List Bool) (r : Row) → IsRowInTable (length needed) r → (p : ℕ) → Needs needed p →
    Needs (with_sides needed r) p
needs_sides needed r within p h = needs_more (slice_set needed r.first.place true) r.second.place p
    (omega (arith, length-set needed r.first.place true, within.second))
    (needs_more needed r.first.place p within.first h)

module _ {rows : List Row} (is : IsScheduled rows) (needed : List Bool) (n : ℕ) (lt : n < length rows)
    (within : IsRowInTable (length needed) (numbered_row rows n)) where
  -- a row reads neither its own target nor the target of a later row
  needed_before : (k : ℕ) → n ≤ k → k < length rows →
      Needs (with_sides needed (numbered_row rows n)) (numbered_row rows k).target →
      Needs needed (numbered_row rows k).target
  needed_before k le less h =
      elim (needs_less (slice_set needed (numbered_row rows n).first.place true) (numbered_row rows n).second.place
      (numbered_row rows k).target h) [
        | inr same ↦ absurd (let before = is.second_behind n k lt less (sym same) in omega arith)
        | inl there ↦ elim (needs_less needed (numbered_row rows n).first.place (numbered_row rows k).target there) [
          | inr same ↦ absurd (let before = is.first_behind n k lt less (sym same) in omega arith)
          | inl before ↦ before
        ]
      ]

  sides_needed : NeedsWhatItReads (with_sides needed (numbered_row rows n)) (numbered_row rows n)
  sides_needed = record {
    first = λ h. needs_more (slice_set needed (numbered_row rows n).first.place true) (numbered_row rows n).second.place
        (numbered_row rows n).first.place
        (omega (arith, length-set needed (numbered_row rows n).first.place true, within.second))
        (get_or-set_same needed (numbered_row rows n).first.place true false within.first);
    second = λ h. get_or-set_same (slice_set needed (numbered_row rows n).first.place true)
        (numbered_row rows n).second.place true false
        (omega (arith, length-set needed (numbered_row rows n).first.place true, within.second));
  }

  pub reads_more : ((k : ℕ) → n < k → k < length rows → NeedsWhatItReads needed (numbered_row rows k)) → (k : ℕ) →
      n ≤ k →
      k < length rows → NeedsWhatItReads (with_sides needed (numbered_row rows n)) (numbered_row rows k)
  reads_more behind k le less = elim (cases_lt n k) [
    | inl more ↦ (let there = behind k more less in record {
      first = λ h. needs_sides needed (numbered_row rows n) within _ (there.first (needed_before k le less h));
      second = λ h. needs_sides needed (numbered_row rows n) within _ (there.second (needed_before k le less h));
    })
    | inr ge ↦ (let same : n ≡ k = omega arith in
        subst (λ j. NeedsWhatItReads (with_sides needed (numbered_row rows n)) (numbered_row rows j)) same sides_needed)
  ]

-- ---- leaving out rows

-- two tables of values agree at each index that the list `needed` marks
abbrev Agree : List Bool → List Bool → List Bool → Type 0
Agree needed a b = (p : ℕ) → Needs needed p → get_or a p false ≡ get_or b p false

module _ (needed : List Bool) (size : ℕ) where
  set_both : (a b : List Bool) (q : ℕ) (x y : Bool) → length a ≡ size → length b ≡ size → q < size → x ≡ y →
      Agree needed a b → Agree needed (slice_set a q x) (slice_set b q y)
  set_both a b q x y la lb lt e agree p n = elim (cases_eq p q) [
    | inl same ↦ grind (arith, get_or-set_same a q x false (omega arith), get_or-set_same b q y false (omega arith))
    | inr differ ↦ get_or-set_other a q p x false differ ∙ agree p n ∙ sym (get_or-set_other b q p y false differ)
  ]

  set_one : (a b : List Bool) (q : ℕ) (y : Bool) → get_or needed q false ≡ false → Agree needed a b →
      Agree needed a (slice_set b q y)
  set_one a b q y none agree p n = elim (cases_eq p q) [
    | inl same ↦ absurd (let h : get_or needed q false ≡ true = rw same at n in cc)
    | inr differ ↦ agree p n ∙ sym (get_or-set_other b q p y false differ)
  ]

  pub work_out-needed : (rows : List Row) (a b : List Bool) → All (IsRowInTable size) rows →
      All (NeedsWhatItReads needed) rows → length a ≡ size → length b ≡ size → Agree needed a b →
      Agree needed (work_out (needed_rows needed rows) a) (work_out rows b)
  work_out-needed [] a b within reads la lb agree = agree
  work_out-needed (r ∷ rows) a b within reads la lb agree = elim (cases_Bool (get_or needed r.target false)) [
    | inl needs ↦ (let reading = reads 0 r (omega arith) in
        let x : read a r.first ≡ read b r.first = read-same a b r.first (agree _ (reading.first needs)) in
        let y : read a r.second ≡ read b r.second = read-same a b r.second (agree _ (reading.second needs)) in
        rw needs (work_out-needed rows (work_row a r) (work_row b r) (λ k d lt. within (suc k) d (omega arith))
        (λ k d lt. reads (suc k) d (omega arith)) (length-set a r.target _ ∙ la) (length-set b r.target _ ∙ lb)
        (set_both a b r.target _ _ la lb (within 0 r (omega arith)).target (ap₂ ◌&&◌ x y) agree)))
    | inr needless ↦ rw needless (work_out-needed rows a (work_row b r) (λ k d lt. within (suc k) d (omega arith))
        (λ k d lt. reads (suc k) d (omega arith)) la (length-set b r.target _ ∙ lb)
        (set_one a b r.target _ needless agree))
  ]

  pub reads-needed : (wires : List Wire) (a b : List Bool) → All (NeedsWire needed) wires → Agree needed a b →
      map (read a) wires ≡ map (read b) wires
  reads-needed [] a b need agree = refl
  reads-needed (w ∷ wires) a b need agree = ap₂ ◌∷◌ (read-same a b w (agree _ (need 0 w (omega arith))))
      (reads-needed wires a b (λ k d lt. need (suc k) d (omega arith)) agree)

-- ---- the remaining plan

module _ {c : CircuitData} (is : IsCircuit c) {whole cut : Plan} (p : IsPlan c whole) (left : IsPlanOfNeeded whole cut)
  where
    pub cut_within : All (IsRowInTable (length (variables c))) cut.rows.items
    cut_within =
        rw left.rows_are (All-filter (λ r. get_or left.needed r.target false) (IsRowInTable (length (variables c)))
        whole.rows.items (rows_within is p))

    pub cut_outputs_within : All (λ w. w.place < length (variables c)) cut.outputs.items
    cut_outputs_within = rw left.outputs_are (outputs_within is p)

    pub cut_nexts_within : All (λ w. w.place < length (variables c)) cut.nexts.items
    cut_nexts_within = rw left.nexts_are (nexts_within is p)

    no_constant : All (λ (r : Row). r.target ≢ 0) cut.rows.items
    no_constant = rw left.rows_are (All-filter (λ r. get_or left.needed r.target false) (λ (r : Row). r.target ≢ 0)
        whole.rows.items (All-from_get_or (λ (r : Row). r.target ≢ 0) whole.rows.items no_row
        (λ k lt e. absurd (omega (arith, target_is is p.rows_are k lt, e)))))

    module _ {inputs latches values : List Bool}
        (worked : IsWorkedOut cut.rows.items inputs latches (length (variables c)) values) where
      abbrev all : List Bool
      all = work_out whole.rows.items worked.table

      all_worked : IsWorkedOut whole.rows.items inputs latches (length (variables c)) all
      all_worked = record { table = worked.table; each = worked.each; holds = worked.holds; done = refl }

      agree : Agree left.needed values all
      agree = rw (worked.done, left.rows_are) (work_out-needed left.needed (length (variables c)) whole.rows.items
          worked.table worked.table (rows_within is p) left.are_needed.by_rows worked.each worked.each (λ q n. refl))

      pub Steps-cut : {outputs next : List Bool} → length inputs ≡ length c.inputs → length latches ≡ length c.latches →
          outputs ≡ map (read values) cut.outputs.items → next ≡ map (read values) cut.nexts.items →
          Steps c latches inputs outputs next
      Steps-cut many_inputs many_latches outputs_are next_are =
          Steps-worked_out is p many_inputs many_latches all_worked
          (outputs_are ∙ ap (map (read values)) left.outputs_are
          ∙ reads-needed left.needed (length (variables c)) whole.outputs.items values all left.are_needed.by_outputs
          agree)
          (next_are ∙ ap (map (read values)) left.nexts_are
          ∙ reads-needed left.needed (length (variables c)) whole.nexts.items values all left.are_needed.by_nexts agree)

      pub IsValueTable-cut : {old : List Bool} (next : List Bool) → IsValueTable c whole old latches →
          length next ≡ length c.latches → IsValueTable c whole values next
      IsValueTable-cut next t each = record {
        is_circuit = is;
        is_plan = p;
        values_each = ap length worked.done ∙ length-work_out cut.rows.items worked.table ∙ worked.each;
        constant = ap (λ (xs : List Bool). get_or xs 0 false) worked.done
            ∙ work_out-other cut.rows.items worked.table 0 (λ k lt. no_constant k no_row lt) ∙ worked.holds.constant;
        latches_each = each;
      }
