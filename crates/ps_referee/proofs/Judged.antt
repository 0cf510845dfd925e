-- The steps of judging a claimed solution. A correct solution has no flaw, and no player loses a cycle of remaining
-- edges among the vertices that the player is claimed to win. So judging a correct solution returns no fault except out
-- of memory.
use Rattle.std.proofs.Common.{◌≡◌, ◌⊎◌, inl, inr, ℕ, zero, suc, ◌<◌, List, Option, Bool, refl, sym, subst, arith}
use Rattle.std.proofs.Common.{rules, not, Result, Ok, Err, IsErrAnd}
use Rattle.std.specs.Result.{IfErr}
use Rattle.std.proofs.lemmas.Bool.{cases_Bool, cases_eq}
use Rattle.ps_game.specs.Games.{ParityGame, IsGame, vertex_count}
use Rattle.ps_game.specs.Plays.{KeepsTo, Holds}
use Rattle.ps_game.specs.Regions.{has, move_at}
use Rattle.ps_certificate.specs.declared.flaw.Flaw.{Flaw}
use Rattle.ps_certificate.specs.declared.flaw.Flaw.TheVariants.{Move, Escape, Rank}
use Rattle.ps_certificate.specs.Certificates.{EntryData, IsClosed, IsFirstFlaw, winner_of, opposing}
use Rattle.ps_certificate.proofs.FlawsAndValidity.FirstFlaws.{closed_has_no_flaw}
use Rattle.ps_measure.specs.Ranks.{AreRanks}
use Rattle.ps_measure.proofs.RaisedCounts.Held.{not_held}
use Rattle.ps_referee.specs.declared.fault.JudgeFault.{JudgeFault}
use Rattle.ps_referee.specs.declared.fault.JudgeFault.TheVariants.{Unclosed, BadCycle, OutOfMemory}
use Rattle.ps_referee.specs.Solutions.{claimed, IsSolution, IsCertificateOf, IsCycleOf, IsRefusal, IsOutOfMemory}
use Rattle.ps_referee.specs.Inner.Building.{claims, winner_row}
use Rattle.ps_referee.specs.Inner.Counting.{IsLostIn}
use Rattle.ps_referee.proofs.Certified.{made_of, certified_entries, entries_say}
use Rattle.ps_referee.proofs.Claims.{winner_is}
use Rattle.ps_referee.proofs.PlayersPart.{part, keeps, right_move, stays_in, keeps_same, holds_same, lost_same}
use Rattle.ps_referee.proofs.HeldByCounts.{ranks_hold}

module _ (game : ParityGame) (won : List Bool) (first second : List (Option ℕ)) where
  -- ## Closed solutions

  pub first_keeps : IsClosed game (claimed game won first second) → KeepsTo game 0 (has won) (move_at first)
  first_keeps closed = keeps (part game won first second 0 (omega arith)) closed

  pub second_keeps : IsClosed game (claimed game won first second) →
      KeepsTo game 1 (λ v. not (has won v)) (move_at second)
  second_keeps closed = keeps (part game won first second 1 (omega arith)) closed

  winners : (v : ℕ) → v < vertex_count game → (winner_of (claimed game won first second) v ≡ 0) ⊎
      (winner_of (claimed game won first second) v ≡ 1)
  winners v below = grind (arith, cases_Bool (has won v), winner_is game won first second v below)

  -- a correct solution is closed: no move is wrong, and no remaining edge leads to a vertex with the other winner
  pub solution_closed : IsGame game → IsSolution game won first second → IsClosed game (claimed game won first second)
  solution_closed is_game s = record {
    moves = λ v below. elim (winners v below) [
      | inl wins ↦ right_move is_game (part game won first second 0 (omega arith)) s.first_holds.keeps v below wins
      | inr wins ↦ right_move is_game (part game won first second 1 (omega arith)) s.second_holds.keeps v below wins
    ];
    stays = λ v w r. elim (winners v r.edge.0) [
      | inl wins ↦ stays_in is_game (part game won first second 0 (omega arith)) s.first_holds.keeps v w wins r
      | inr wins ↦ stays_in is_game (part game won first second 1 (omega arith)) s.second_holds.keeps v w wins r
    ];
  }

  -- If no move of a claimed solution is wrong, and no remaining edge leads to a vertex with the other winner, the
  -- solution has no flaw. A wrong count would also be a flaw, but the certificate `claimed` has no counts.
  pub closed_flawless : IsClosed game (claimed game won first second) → (flaw : Flaw) →
      IsFirstFlaw game (claimed game won first second) flaw → ⊥
  unfolding claimed opposing
  closed_flawless closed (Move v m) first_flaw = closed_has_no_flaw closed (Move v m) first_flaw.is_flaw refl
  closed_flawless closed (Escape v w) first_flaw = closed_has_no_flaw closed (Escape v w) first_flaw.is_flaw refl
  closed_flawless closed (Rank v w p) first_flaw = grind (arith, cases_eq (winner_of (claimed game won first second) v) 0)

  -- ## Rejected solutions

  -- a solution with a flaw does not satisfy `IsCycleOf`, which requires a solution without flaws
  pub flaw_without_cycle : (flaw : Flaw) (player : ℕ) (cycle : List ℕ) →
      IsFirstFlaw game (claimed game won first second) flaw → ¬ IsCycleOf game won first second player cycle
  flaw_without_cycle flaw player cycle first_flaw lost = closed_flawless lost.closed flaw first_flaw

  -- a correct solution has no flaw, and no player loses a cycle among the vertices that the player is claimed to win
  pub no_flaw : (flaw : Flaw) → IsGame game → IsSolution game won first second →
      ¬ IsFirstFlaw game (claimed game won first second) flaw
  no_flaw flaw is_game s first_flaw = closed_flawless (solution_closed is_game s) flaw first_flaw

  pub no_cycle : (player : ℕ) (cycle : List ℕ) → IsSolution game won first second →
      ¬ IsCycleOf game won first second player cycle
  no_cycle zero cycle s lost = not_held lost.lost lost.is_player s.first_holds
  no_cycle (suc zero) cycle s lost = not_held lost.lost lost.is_player s.second_holds
  no_cycle (suc (suc n)) cycle s lost = absurd (omega (arith, lost.is_player))

  -- for a correct solution, the only possible fault is out of memory
  solution_judged : IsGame game → IsSolution game won first second → (fault : JudgeFault) →
      IsRefusal game won first second fault → IsOutOfMemory fault
  solution_judged is_game s (Unclosed flaw) refused = no_flaw flaw is_game s refused
  solution_judged is_game s (BadCycle player cycle) refused = no_cycle player cycle.items s refused
  solution_judged is_game s OutOfMemory refused = tt

  pub judged_err : {X : Type 0} (r : Result X JudgeFault) → IsGame game → IsSolution game won first second →
      IfErr r (IsRefusal game won first second) → IfErr r IsOutOfMemory
  judged_err (Ok x) is_game s refused = tt
  judged_err (Err fault) is_game s refused = solution_judged is_game s fault refused

  pub first_loses : IsClosed game (claimed game won first second) → (fault : JudgeFault) →
      IsLostIn game 0 (has won) (move_at first) fault → IsRefusal game won first second fault
  first_loses closed (Unclosed flaw) lost = absurd lost
  first_loses closed (BadCycle player cycle) lost = search rules
  first_loses closed OutOfMemory lost = tt

  module _ (lost : List Bool) (is_game : IsGame game) (closed : IsClosed game (claimed game won first second))
      (rest : (v : ℕ) → v < vertex_count game → has lost v ≡ not (has won v)) where
    pub second_loses : Holds game 0 (has won) (move_at first) → (fault : JudgeFault) →
        IsLostIn game 1 (has lost) (move_at second) fault → IsRefusal game won first second fault
    second_loses holds (Unclosed flaw) is = absurd is
    second_loses holds (BadCycle player cycle) is = search (rules, lost_same)
    second_loses holds OutOfMemory is = tt

    -- ## Counts of both players

    pub first_holds : {odd : List ℕ} {odd_rows : List (List ℕ)} →
        AreRanks game 0 (has won) (move_at first) odd odd_rows → Holds game 0 (has won) (move_at first)
    first_holds ranks = ranks_hold (omega arith) (first_keeps closed) ranks

    pub second_holds : {even : List ℕ} {even_rows : List (List ℕ)} →
        AreRanks game 1 (has lost) (move_at second) even even_rows → Holds game 1 (has lost) (move_at second)
    second_holds ranks =
        ranks_hold (omega arith) (keeps_same (λ v below. sym (rest v below)) (second_keeps closed)) ranks

    pub solution : Holds game 0 (has won) (move_at first) → Holds game 1 (has lost) (move_at second) →
        IsSolution game won first second
    solution one two = record { first_holds = one; second_holds = holds_same rest two }

    pub judged : (odd even : List ℕ) (odd_rows even_rows : List (List ℕ)) (entries : List EntryData) →
        AreRanks game 0 (has won) (move_at first) odd odd_rows →
        AreRanks game 1 (has lost) (move_at second) even even_rows →
        entries ≡ claims game won first second (winner_row won odd_rows even_rows) (vertex_count game) →
        IsSolution game won first second × IsCertificateOf game won first second (made_of odd even entries)
    judged odd even odd_rows even_rows entries odd_ranks even_ranks are =
        let one = first_holds odd_ranks in
        let two = second_holds even_ranks in
        let made = certified_entries game won lost first second odd even odd_rows even_rows odd_ranks even_ranks rest
        is_game one two in (
          solution one two,
          subst (λ es. IsCertificateOf game won first second (made_of odd even es)) (sym are) (record {
            same = entries_say game won lost first second odd even odd_rows even_rows;
            fits = made.0;
            valid = made.1;
            least = made.2;
          }),
        )

pub only_memory : {X : Type 0} {r : Result X JudgeFault} {fault : JudgeFault} → r ≡ Err fault →
    IfErr r IsOutOfMemory → IsOutOfMemory fault
only_memory is h = subst (λ r. IfErr r IsOutOfMemory) is h

-- if the operator `?` returns a fault as the result r of a function, and the fault satisfies P, so does the fault of r
pub if_err : {X : Type 0} (r : Result X JudgeFault) (fault : JudgeFault) (P : JudgeFault → Type 0) →
    IsErrAnd r (λ y. y ≡ fault) → P fault → IfErr r P
if_err (Ok x) fault P passed h = tt
if_err (Err other) fault P passed h = subst P (sym passed) h
