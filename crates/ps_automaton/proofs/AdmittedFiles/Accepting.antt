-- The deterministic automaton that is built from an HOA file accepts the same lassos as the automaton that the file
-- states. A lap is one repetition of the lasso's repeated part. If reading one or more laps leads the deterministic
-- automaton from a state back to the same state, the greatest priority during these laps is even exactly if the file's
-- automaton accepts the lasso.
use Rattle.std.proofs.Common.{◌≡◌, ℕ, ◌+◌, ◌-◌, ◌*◌, ◌^◌, ◌<◌, ◌≤◌, inl, inr, suc, zero, Bool, true, rules}
use Rattle.std.proofs.Common.{false, List, length, Some, refl, ap, sym, ◌∙◌, arith, add-one, add-zero}
use Rattle.std.specs.Prelude.{◌↔◌, IsTrue, All}
use Rattle.std.proofs.Math.Nat.{eq-or-lt_of_le, mod-lt, mul-le-mul_left, add-suc}
use Rattle.std.proofs.lemmas.Bool.{cases_lt}
use Rattle.ps_hoa.specs.Files.{FileData}
use Rattle.ps_hoa.specs.Edges.{Goes}
use Rattle.ps_automaton.specs.Chains.{Chain, chain_of, level, holds, is_met, is_even, greatest_level}
use Rattle.ps_label.specs.Words.{lasso_word}
use Rattle.ps_automaton.specs.Autos.{Auto, TakesEdge, IsAutoOf, state_at, priority_at, greatest_from, state_behind}
use Rattle.ps_automaton.specs.Autos.{state_after, greatest_of_laps}
use Rattle.ps_automaton.specs.Acceptance.{IsRun, IsAccepted, part}
use Rattle.ps_automaton.proofs.ChainsOfSets.ChainLaws.{greatest_decides}
use Rattle.ps_automaton.proofs.AdmittedFiles.Orbits.{any_return_decides, priorities_repeat, word_repeats, word_within}
use Rattle.ps_automaton.proofs.AdmittedFiles.Orbits.{word_behind}
use Rattle.ps_automaton.proofs.AdmittedFiles.Orbits.{all_below, place_below, laps_are_read, greatest_is_read}

-- f gives the priority of each edge in a part of a run: the greatest priority of the part is the greatest value of f at
-- the part's indices
levels_are : (chain : Chain) (f : ℕ → ℕ) (sets : ℕ → ℕ → Bool) (from count : ℕ) →
    ((t : ℕ) → from ≤ t → t < from + count → f t ≡ level chain (sets t)) →
    greatest_level chain (part sets from count) ≡ greatest_from f from count
levels_are chain f sets from zero each = refl
levels_are chain f sets from (suc count) each = cc (
  each from (omega arith) (omega arith),
  levels_are chain f sets (from + 1) count (λ t low high. grind arith),
)

part_length : (sets : ℕ → ℕ → Bool) (from count : ℕ) → length (part sets from count) ≡ count
part_length sets from zero = refl
part_length sets from (suc count) = ap suc (part_length sets (from + 1) count)

module _ {file : FileData} {chain : Chain} {a : Auto} (is_chain : chain_of file.condition ≡ Some chain)
    (is_auto : IsAutoOf file chain a) (w : ℕ → ℕ) (letters : (t : ℕ) → w t < 2 ^ length file.names) where
  state_within : (t : ℕ) → state_at a w t ≤ file.states
  state_within zero = is_auto.start_within
  state_within (suc t) = is_auto.within (state_at a w t) (w t) (state_within t) (letters t)

  sink_stays_from : (t : ℕ) → state_at a w t ≡ file.states → (n : ℕ) → state_at a w (t + n) ≡ file.states
  sink_stays_from t is zero = rw (add-zero t) is
  sink_stays_from t is (suc n) =
      rw add-suc (cc (sink_stays_from t is n, (is_auto.sink_stays (w (t + n)) (letters (t + n))).0))

  -- each edge taken from the sink has the priority 1
  priority_in_sink : (t : ℕ) → state_at a w t ≡ file.states → priority_at a w t ≡ 1
  priority_in_sink t is = cc (is, (is_auto.sink_stays (w t) (letters t)).1)

  module _ (from count : ℕ) (some : 0 < count) (back : state_at a w (from + count) ≡ state_at a w from) where
    odd_in_sink : state_at a w from ≡ file.states → greatest_from (priority_at a w) from count ≡ 1
    odd_in_sink is =
        let each : (t : ℕ) → from ≤ t → priority_at a w t ≡ 1 = λ t low.
        priority_in_sink t (ap (state_at a w) (omega arith) ∙ sink_stays_from from is (t - from)) in
        grind (arith, all_below, place_below)

    -- if a segment of the run begins and ends in the same state and its greatest priority is even, the run has not
    -- reached the sink by the end of the segment
    outside_sink : is_even (greatest_from (priority_at a w) from count) ≡ true → (t : ℕ) → t ≤ from + count →
        state_at a w t ≡ file.states → ⊥
    outside_sink even t before is = grind (
      arith,
      odd_in_sink (sym back ∙ ap (state_at a w) (omega arith) ∙ sink_stays_from t is (from + count - t)),
    )

    module _ (even : is_even (greatest_from (priority_at a w) from count) ≡ true) where
      edge_at : (t : ℕ) → t < from + count → TakesEdge file chain a (state_at a w t) (w t)
      edge_at t before = elim (eq-or-lt_of_le (state_within t)) [
        | inl e ↦ absurd (outside_sink even t (omega arith) e)
        | inr inside ↦ elim (is_auto.steps (state_at a w t) (w t) inside (letters t)) [
          | inl taken ↦ taken
          | inr none ↦ absurd (outside_sink even (suc t) (omega arith) none.to_sink)
        ]
      ]

      edges : (t : ℕ) → (sets : ℕ → Bool) × (t < from + count → Goes file (state_at a w t) (w t) sets
          (state_at a w (t + 1)) × (priority_at a w t ≡ level chain sets))
      edges t = elim (cases_lt t (from + count)) [
        | inl before ↦ (let e = edge_at t before in (e.sets, λ h. (rw add-one e.goes, e.priority)))
        | inr behind ↦ (λ set. false, λ h. absurd (omega arith))
      ]

      -- if the greatest priority between two visits of a state is even, the deterministic automaton's run is also a run
      -- of the file's automaton, and its part between the visits satisfies the acceptance condition
      pub run_of_auto : (sets : ℕ → ℕ → Bool) × IsRun file w (from + count) (state_at a w) sets ×
          IsTrue (holds (is_met (part sets from count)) file.condition)
      run_of_auto =
          let sets : ℕ → ℕ → Bool = λ t. (edges t).0 in
          let levels = levels_are chain (priority_at a w) sets from count (λ t low high. ((edges t).1 high).1) in (
            sets,
            grind arith,
            sym (search (rules, greatest_decides, part_length)) ∙ ap is_even levels ∙ even,
          )

  -- each run of the file's automaton visits the same states as the deterministic automaton's run
  run_states : {count : ℕ} {states : ℕ → ℕ} {sets : ℕ → ℕ → Bool} → IsRun file w count states sets → (t : ℕ) →
      t ≤ count → states t ≡ state_at a w t
  run_states run zero within = run.begins ∙ sym is_auto.start
  run_states run (suc t) within = search (rules, add-one, run_states run t (omega arith))

  run_levels : {count : ℕ} {states : ℕ → ℕ} {sets : ℕ → ℕ → Bool} → IsRun file w count states sets → (t : ℕ) →
      t < count → priority_at a w t ≡ level chain (sets t)
  run_levels run t within = cc (run_states run t (omega arith), (is_auto.by_edge _ _ _ _ (run.goes t within)).1)

  pub run_is_even : (from count : ℕ) {states : ℕ → ℕ} {sets : ℕ → ℕ → Bool} → 0 < count →
      IsRun file w (from + count) states sets → IsTrue (holds (is_met (part sets from count)) file.condition) →
      is_even (greatest_from (priority_at a w) from count) ≡ true
  run_is_even from count {states} {sets} some run met = ap is_even (sym (levels_are chain (priority_at a w) sets from
      count (λ t low high. grind (arith, run_levels run t high)))) ∙ greatest_decides file.condition chain
      (part sets from count) is_chain (omega (arith, part_length sets from count)) ∙ met

-- ## Lassos

module _ (file : FileData) (chain : Chain) (a : Auto) (is_chain : chain_of file.condition ≡ Some chain)
    (is_auto : IsAutoOf file chain a) (stem lap : List ℕ) (some : 0 < length lap)
    (in_stem : All (λ letter. letter < 2 ^ length file.names) stem)
    (in_lap : All (λ letter. letter < 2 ^ length file.names) lap) where
  letters_are : (t : ℕ) → lasso_word stem lap t < 2 ^ length file.names
  letters_are t = search (rules, cases_lt, word_within, word_behind, mod-lt)

  some_letters : (laps : ℕ) → 0 < laps → 0 < laps * length lap
  some_letters laps h = omega (arith, mul-le-mul_left laps some)

  end_is : (before laps : ℕ) → length stem + before * length lap + laps * length lap ≡ length stem +
      (before + laps) * length lap
  end_is before laps = omega arith

  module _ (before laps : ℕ) (some_laps : 0 < laps) (back : state_at a (lasso_word stem lap)
      (length stem + (before + laps) * length lap) ≡ state_at a (lasso_word stem lap)
      (length stem + before * length lap))
    where
      back_here : state_at a (lasso_word stem lap) (length stem + before * length lap + laps * length lap) ≡ state_at a
          (lasso_word stem lap) (length stem + before * length lap)
      back_here = rw (end_is before laps) back

      pub even_is_accepted : is_even
          (greatest_from (priority_at a (lasso_word stem lap)) (length stem + before * length lap)
          (laps * length lap)) ≡ true → IsAccepted file stem lap
      even_is_accepted even =
          let run = run_of_auto is_chain is_auto (lasso_word stem lap) letters_are (length stem + before * length lap)
          (laps * length lap) (some_letters laps some_laps) back_here even in
          record {
            has_letter = some;
            before = before;
            laps = laps;
            some = some_laps;
            states = state_at a (lasso_word stem lap);
            sets = run.0;
            run = rw (end_is before laps) at run.1;
            returns = sym back;
            met = run.2;
          }

      pub accepted_is_even : IsAccepted file stem lap → is_even (greatest_from (priority_at a (lasso_word stem lap))
          (length stem + before * length lap) (laps * length lap)) ≡ true
      accepted_is_even accepted =
          let w = lasso_word stem lap in
          let from = length stem + accepted.before * length lap in
          let count = accepted.laps * length lap in
          let end = end_is accepted.before accepted.laps in
          let run : IsRun file w (from + count) accepted.states accepted.sets = rw end accepted.run in
          let there = run_states is_chain is_auto w letters_are run in
          let returns : state_at a w (from + count) ≡ state_at a w from =
          search (rules, accepted.states, accepted.returns) in
          ap is_even (search (rules, any_return_decides, priorities_repeat, word_repeats, back_here, some_letters))
          ∙ run_is_even is_chain is_auto w letters_are from count (some_letters accepted.laps accepted.some) run
          accepted.met

-- A lap is one repetition of the lasso's repeated part. If one or more laps lead from the state s back to s, the file's
-- automaton accepts the lasso exactly if the greatest priority during these laps is even.
pub laps_decide : (file : FileData) (chain : Chain) (a : Auto) (stem lap : List ℕ) (before laps s : ℕ) →
    chain_of file.condition ≡ Some chain → IsAutoOf file chain a → 0 < length lap →
    All (λ letter. letter < 2 ^ length file.names) stem → All (λ letter. letter < 2 ^ length file.names) lap →
    0 < laps → state_after a (state_behind a a.start stem) lap before ≡ s →
    state_after a (state_behind a a.start stem) lap (before + laps) ≡ s →
    (is_even (greatest_of_laps a s lap laps) ≡ true) ↔ IsAccepted file stem lap
laps_decide file chain a stem lap before laps s is_chain is_auto some in_stem in_lap some_laps begins returns =
    let back = laps_are_read a stem lap (before + laps) ∙ returns ∙ sym begins
    ∙ sym (laps_are_read a stem lap before) in
    let greatest = greatest_is_read a stem lap before laps ∙ ap (λ q. greatest_of_laps a q lap laps) begins in
    (search (rules, even_is_accepted, accepted_is_even))
