-- If moving by a table keeps plays inside a region and the player wins each of their loops (`Holds`), the player loses
-- no cycle of edges that remain within the region.
use Rattle.std.proofs.Common.{◌≡◌, ℕ, ◌+◌, ◌<◌, ◌∙◌, List, [], ◌∷◌, ◌++◌, length, map, inl, inr, refl}
use Rattle.std.proofs.Common.{sym, arith, Option, Bool, rules}
use Rattle.std.specs.Prelude.{slice_index, IsTrue}
use Rattle.std.proofs.lemmas.Bool.{cases_lt}
use Rattle.std.proofs.lemmas.List.{get_or_append_left, get_or_push, length_push, take_at}
use Rattle.ps_game.specs.Games.{ParityGame, priority_of}
use Rattle.ps_game.specs.Plays.{IsPath, IsLoop, Follows, Holds, greatest, loop_priority}
use Rattle.ps_game.specs.Ranking.{RemainsWithin}
use Rattle.ps_measure.specs.declared.fault.MeasureFault.{MeasureFault}
use Rattle.ps_measure.specs.Ranks.{IsLostCycle, IsRefusal, IsOutOfMemory}

module _ {game : ParityGame} {player : ℕ} {set : ℕ → Bool} {table : ℕ → Option ℕ} {cycle : List ℕ}
    (lost : IsLostCycle game player set table cycle) where
  -- the cycle as a path, with its first vertex repeated at the end
  abbrev round : List ℕ
  round = cycle ++ slice_index cycle 0 ∷ []

  long : length round ≡ length cycle + 1
  long = length_push cycle (slice_index cycle 0)

  at_old : (k : ℕ) → k < length cycle → slice_index round k ≡ slice_index cycle k
  at_old k within = get_or_append_left cycle (slice_index cycle 0 ∷ []) 0 k within

  at_end : slice_index round (length cycle) ≡ slice_index cycle 0
  at_end = get_or_push cycle (slice_index cycle 0) 0 (length cycle) refl

  step : (k : ℕ) → k + 1 < length round → RemainsWithin game player set table (slice_index round k)
      (slice_index round (k + 1))
  step k within = elim (cases_lt (k + 1) (length cycle)) [
    | inl less ↦ rw (at_old k (omega arith), at_old (k + 1) less) (lost.edges k less)
    | inr more ↦ search (rules, long, at_end, at_old)
  ]

  is_path : IsPath game round
  is_path = record {
    begins = omega (arith, long);
    vertices = search (rules, cases_lt, at_old, long, at_end);
    edges = λ k within. (step k within).remains.edge;
  }

  begins : IsTrue (set (slice_index round 0))
  begins = (step 0 (omega (arith, long, lost.some))).from

  follows : Follows game player table round
  follows k within own = (step k within).remains.chosen own

  is_loop : IsLoop round 0 (length cycle)
  is_loop = record { rises = lost.some; within = omega (arith, long); same = at_old 0 lost.some ∙ sym at_end }

  priority_is : loop_priority game round 0 (length cycle) ≡ greatest (map (priority_of game) cycle)
  unfolding loop_priority
  priority_is = search (rules, take_at)

  pub not_held : player < 2 → Holds game player set table → ⊥
  not_held is_player holds = search (rules, is_path, begins, follows, is_loop, priority_is)

pub held_refusal : {game : ParityGame} {player : ℕ} {set : ℕ → Bool} {table : ℕ → Option ℕ} (fault : MeasureFault) →
    player < 2 → IsRefusal game player set table fault → Holds game player set table → IsOutOfMemory fault
held_refusal fault h k m = search (rules, not_held)
