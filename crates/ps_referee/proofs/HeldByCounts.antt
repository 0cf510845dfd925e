-- A player who stays in a set by a table of moves also wins there, if least counts exist for the set and the table.
use Rattle.std.proofs.Common.{◌≡◌, ℕ, ◌+◌, ◌%◌, ◌<◌, ◌≤◌, ◌∙◌, List, length, get_or, inl, inr, sym, ap, arith, rules}
use Rattle.std.proofs.Common.{Option, Bool}
use Rattle.std.specs.Prelude.{IsTrue}
use Rattle.std.proofs.lemmas.Bool.{cases_eq}
use Rattle.ps_game.specs.Games.{ParityGame, priority_of}
use Rattle.ps_game.specs.Plays.{IsPath, IsLoop, Follows, WinsLoop, KeepsTo, Holds, loop_priority, other_player}
use Rattle.ps_game.specs.Ranking.{RemainsWithin, KeepsRule}
use Rattle.ps_game.proofs.PathsAndLoops.LoopPriorities.{le-loop_priority, loop_priority_stands}
use Rattle.ps_measure.specs.Ranks.{AreRanks, count_of}
use Rattle.ps_certificate.proofs.FlawsAndValidity.SuccessorEdges.{place_of}
use Rattle.ps_certificate.proofs.FlawsAndValidity.Holding.{falls_in_the_end}

module _ {game : ParityGame} {player : ℕ} {set : ℕ → Bool} {table : ℕ → Option ℕ} {priorities : List ℕ}
    {rows : List (List ℕ)} (is_player : player < 2) (keeps : KeepsTo game player set table)
    (ranks : AreRanks game player set table priorities rows) where
  -- the player wins each loop of a path that begins in the set and follows the table
  module _ {path : List ℕ} {i j : ℕ} (is_path : IsPath game path) (begins : IsTrue (set (get_or path 0 0)))
      (follows : Follows game player table path) (loop : IsLoop path i j) where
    step : (k : ℕ) → k < j → RemainsWithin game player set table (get_or path k 0) (get_or path (k + 1) 0)
    step k below = record {
      from = keeps.stays path is_path begins follows k (omega (arith, loop.within));
      to = keeps.stays path is_path begins follows (k + 1) (omega (arith, loop.within));
      remains = record {
        edge = is_path.edges k (omega (arith, loop.within));
        chosen = follows k (omega (arith, loop.within));
      };
    }

    -- at each position from i to j, the vertex's priority is at most the loop's priority, which is the greatest at the
    -- positions i to j - 1
    bounded : (k : ℕ) → i ≤ k → k ≤ j → priority_of game (get_or path k 0) ≤ loop_priority game path i j
    bounded k after before = elim (cases_eq k j) [
      | inl last ↦ search (rules, le-loop_priority)
      | inr earlier ↦ le-loop_priority game path i j k after (omega arith) (omega (arith, loop.within))
    ]

    -- the loop's greatest priority is not in the list `priorities`, which has all priorities of the opponent's parity
    not_listed : (place : ℕ) → place < length priorities → get_or priorities place 0 ≡ loop_priority game path i j → ⊥
    not_listed place within is =
        let (m, after, below, has) =
        loop_priority_stands game path i j loop.rises (omega (arith, loop.within)) in
        let count : ℕ → ℕ = λ k. count_of rows (get_or path k 0) place in
        let keep : (k : ℕ) → k < j → KeepsRule (get_or priorities place 0) (priority_of game (get_or path k 0))
        (priority_of game (get_or path (k + 1) 0)) (count k) (count (k + 1)) =
        λ k before. (ranks.columns place within).keep (get_or path k 0) (get_or path (k + 1) 0) (step k before) in
        let never : (k : ℕ) → i ≤ k → k < j → count (k + 1) ≤ count k =
        λ k late before. (keep k before).never_rises (omega (arith, is, bounded k late (omega arith)))
        (omega (arith, is, bounded (k + 1) (omega arith) (omega arith))) in
        let falls : count (m + 1) < count m =
        (keep m below).falls (has ∙ sym is) (omega (arith, is, bounded (m + 1) (omega arith) (omega arith))) in
        let lower : count j < count i = falls_in_the_end count i j m after below never falls in
        let same : count i ≡ count j = ap (λ v. count_of rows v place) loop.same in
        omega (arith, lower, same)

    each_won : WinsLoop game player path i j
    each_won = elim (cases_eq (loop_priority game path i j % 2) player) [
      | inl wins ↦ wins
      | inr loses ↦
          let (m, after, below, has) =
          loop_priority_stands game path i j loop.rises (omega (arith, loop.within)) in
          let parity : priority_of game (get_or path m 0) % 2 ≡ other_player player = omega (arith, ap (λ p. p % 2) has) in
          let (place, within, is) = place_of priorities (ranks.listed.complete (get_or path m 0)
          (is_path.vertices m (omega (arith, loop.within))) parity) in
          absurd (not_listed place within (is ∙ has))
    ]

  pub ranks_hold : Holds game player set table
  ranks_hold = record { keeps = keeps; wins = λ path i j is_path begins follows loop. each_won is_path begins follows loop }
