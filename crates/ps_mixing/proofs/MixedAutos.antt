-- The automata of a mixed file are those of the file, reading moved letters.
use Rattle.std.specs.Prelude.{◌≡◌, ℕ, ◌^◌, ◌<◌, ◌≤◌, ◌⊎◌, Bool, length}
use Rattle.std.proofs.Common.{refl, sym, subst, inl, inr, ◌∙◌}
use Rattle.ps_hoa.specs.Edges.{Goes}
use Rattle.ps_hoa.specs.Files.{FileData}
use Rattle.ps_automaton.specs.Autos.{Auto, IsAutoOf, TakesEdge, TakesNone}
use Rattle.ps_automaton.specs.Chains.{Chain}
use Rattle.ps_mixing.specs.MixedAutos.{mixed_auto}
use Rattle.ps_mixing.specs.MixedFiles.{IsMixingOf, mixed_file}
use Rattle.ps_mixing.specs.Mixings.{Mixing, inverse, moved}
use Rattle.ps_mixing.proofs.MixedSteps.{names_count, steps_back, steps_there}
use Rattle.ps_mixing.proofs.MovedPropositions.MovedLetters.{inverse_is, moved_back, moved_forth, moved_within}

-- two files with the same states, each of which takes the edges of the other at moved letters
module _ (file other : FileData) (n : ℕ) (to from : ℕ → ℕ) (start : other.start ≡ file.start)
    (states : other.states ≡ file.states) (within : (y : ℕ) → y < 2 ^ length other.names → moved n to y < 2 ^
    length file.names) (back : (y : ℕ) → moved n from (moved n to y) ≡ y)
    (there : (q x : ℕ) (sets : ℕ → Bool) (next : ℕ) → Goes file q x sets next → Goes other q (moved n from x) sets next)
    (here : (q y : ℕ) (sets : ℕ → Bool) (next : ℕ) → Goes other q y sets next → Goes file q (moved n to y) sets next)
  where
    abbrev turned : Auto → Auto
    turned auto = record {
      start = auto.start;
      next = λ q letter. auto.next q (moved n to letter);
      priority = λ q letter. auto.priority q (moved n to letter);
    }

    module _ (chain : Chain) (auto : Auto) (is : IsAutoOf file chain auto) where
      steps_turned : (q y : ℕ) → TakesEdge file chain auto q (moved n to y) ⊎ TakesNone file auto q (moved n to y) →
          TakesEdge other chain (turned auto) q y ⊎ TakesNone other (turned auto) q y
      steps_turned q y (inl takes) = inl (record {
        sets = takes.sets;
        goes = subst (λ (x : ℕ). Goes other q x takes.sets (auto.next q (moved n to y))) (back y)
            (there q (moved n to y) takes.sets (auto.next q (moved n to y)) takes.goes);
        priority = takes.priority;
      })
      steps_turned q y (inr none) = inr (record {
        none = λ sets next goes. none.none sets next (here q y sets next goes);
        to_sink = none.to_sink ∙ sym states;
        priority = none.priority;
      })

      auto_turned : IsAutoOf other chain (turned auto)
      auto_turned = record {
        start = is.start ∙ sym start;
        start_within = subst (λ (k : ℕ). auto.start ≤ k) (sym states) is.start_within;
        within = λ q y le lt. subst (λ (k : ℕ). auto.next q (moved n to y) ≤ k) (sym states)
            (is.within q (moved n to y) (subst (λ (k : ℕ). q ≤ k) states le) (within y lt));
        steps = λ q y less lt. steps_turned q y
            (is.steps q (moved n to y) (subst (λ (k : ℕ). q < k) states less) (within y lt));
        by_edge = λ q y sets next goes. is.by_edge q (moved n to y) sets next (here q y sets next goes);
        sink_stays = λ y lt. subst (λ (k : ℕ). (auto.next k (moved n to y) ≡ k) × (auto.priority k (moved n to y) ≡ 1))
            (sym states) (is.sink_stays (moved n to y) (within y lt));
      }

module _ (file : FileData) (mixing : Mixing) (is : IsMixingOf file mixing) where
  abbrev n : ℕ
  n = length file.names

  pub auto_there : (chain : Chain) (auto : Auto) → IsAutoOf file chain auto →
      IsAutoOf (mixed_file mixing file) chain (mixed_auto n mixing auto)
  auto_there chain auto of = auto_turned file (mixed_file mixing file) n mixing.to mixing.from refl refl
      (λ y lt. moved_within (inverse_is is) y (subst (λ (k : ℕ). y < 2 ^ k) (names_count mixing file.names) lt))
      (λ y. moved_forth is y) (steps_there file mixing is) (steps_back file mixing is) chain auto of

  pub auto_back : (chain : Chain) (auto : Auto) → IsAutoOf (mixed_file mixing file) chain auto →
      IsAutoOf file chain (mixed_auto n (inverse mixing) auto)
  auto_back chain auto of = auto_turned (mixed_file mixing file) file n mixing.from mixing.to refl refl
      (λ x lt. subst (λ (k : ℕ). moved n mixing.from x < 2 ^ k) (sym (names_count mixing file.names))
      (moved_within is x lt)) (λ x. moved_back is x) (steps_back file mixing is) (steps_there file mixing is) chain auto
      of
