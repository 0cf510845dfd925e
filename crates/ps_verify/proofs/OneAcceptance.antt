-- Whether an automaton accepts a lasso depends on its infinite word alone, and not on where its stem ends, or on how
-- long its lap is.
-- - `decided`: from some index on, the priorities of the automaton's run repeat; the greatest of them is even exactly
--   if the lasso is accepted
-- - `accepted_too`: of two lassos with one infinite word, one is accepted if the other is
use Rattle.std.proofs.Common.{◌≡◌, ◌∙◌, ℕ, zero, suc, ◌+◌, ◌-◌, ◌*◌, ◌^◌, ◌<◌, ◌≤◌, All, List, Some, length, sym, ap}
use Rattle.std.proofs.Common.{subst, arith, rules, true}
use Rattle.std.specs.Prelude.{◌↔◌}
use Rattle.std.proofs.Math.Nat.{mod-lt, mul-le-mul_right}
use Rattle.std.proofs.lemmas.Bool.{cases_lt}
use Rattle.ps_hoa.specs.Files.{FileData}
use Rattle.ps_automaton.specs.Acceptance.{IsAccepted}
use Rattle.ps_automaton.specs.Autos.{Auto, IsAutoOf, greatest_from, priority_at, state_at}
use Rattle.ps_automaton.specs.Chains.{Chain, chain_of, is_even}
use Rattle.ps_label.specs.Words.{Repeats, lasso_word}
use Rattle.ps_automaton.proofs.AdmittedFiles.Accepting.{accepted_is_even, even_is_accepted}
use Rattle.ps_automaton.proofs.AdmittedFiles.Orbits.{any_return_decides, priorities_repeat, word_behind, word_repeats}
use Rattle.ps_automaton.proofs.AdmittedFiles.Orbits.{word_within}
use Rattle.ps_traces.proofs.Returns.{comes_again}

module _ {file : FileData} {chain : Chain} {auto : Auto} (is_chain : chain_of file.condition ≡ Some chain)
    (is_auto : IsAutoOf file chain auto) where
  abbrev pub AreFew : List ℕ → Type 0
  AreFew letters = All (λ letter. letter < 2 ^ length file.names) letters

  pub few_at : (stem lap : List ℕ) → 0 < length lap → AreFew stem → AreFew lap → (t : ℕ) →
      lasso_word stem lap t < 2 ^ length file.names
  few_at stem lap some in_stem in_lap t = search (rules, cases_lt, word_within, word_behind, mod-lt)

  state_within : (w : ℕ → ℕ) → ((t : ℕ) → w t < 2 ^ length file.names) → (t : ℕ) → state_at auto w t ≤ file.states
  state_within w few zero = is_auto.start_within
  state_within w few (suc t) = is_auto.within (state_at auto w t) (w t) (state_within w few t) (few t)

  pub record Decides (w : ℕ → ℕ) (Accepted : Type 0) : Type 0 where
    pub from : ℕ
    pub count : ℕ
    pub some : 0 < count
    pub repeats : Repeats (priority_at auto w) from count
    pub decides : (is_even (greatest_from (priority_at auto w) from count) ≡ true) ↔ Accepted

  pub decided : (stem lap : List ℕ) → 0 < length lap → AreFew stem → AreFew lap →
      Decides (lasso_word stem lap) (IsAccepted file stem lap)
  decided stem lap some in_stem in_lap =
      let w = lasso_word stem lap in
      let found = comes_again (λ (t : ℕ). state_at auto w (length stem + t * length lap)) (suc file.states)
      (λ t. let le = state_within w (few_at stem lap some in_stem in_lap) (length stem + t * length lap) in omega arith)
      in
      let laps = found.other - found.one in
      let some_laps : 0 < laps = omega (arith, found.rises) in
      let end : found.one + laps ≡ found.other = omega (arith, found.rises) in
      let back : state_at auto w (length stem + (found.one + laps) * length lap)
      ≡ state_at auto w (length stem + found.one * length lap) = rw end (sym found.same) in
      let place : length stem + found.one * length lap + laps * length lap
      ≡ length stem + (found.one + laps) * length lap = omega arith in
      record {
        from = length stem + found.one * length lap;
        count = laps * length lap;
        some = omega (arith, mul-le-mul_right {m = 1} {n = laps} (length lap) some_laps);
        repeats = priorities_repeat auto (laps * length lap) (word_repeats stem lap found.one laps) (rw place back);
        decides = (
          even_is_accepted file chain auto is_chain is_auto stem lap some in_stem in_lap found.one laps some_laps back,
          accepted_is_even file chain auto is_chain is_auto stem lap some in_stem in_lap found.one laps some_laps back,
        );
      }

  pub accepted_too : (stem lap other_stem other_lap : List ℕ) → 0 < length lap → AreFew stem → AreFew lap →
      0 < length other_lap → AreFew other_stem → AreFew other_lap →
      lasso_word stem lap ≡ lasso_word other_stem other_lap → IsAccepted file stem lap →
      IsAccepted file other_stem other_lap
  accepted_too stem lap other_stem other_lap some in_stem in_lap other_some in_other_stem in_other_lap same accepted =
      let one = subst (λ (w : ℕ → ℕ). Decides w (IsAccepted file stem lap)) same
      (decided stem lap some in_stem in_lap) in
      let other = decided other_stem other_lap other_some in_other_stem in_other_lap in
      other.decides.0 (ap is_even (any_return_decides other.repeats one.repeats other.some one.some)
      ∙ one.decides.1 accepted)
