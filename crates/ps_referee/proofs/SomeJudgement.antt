-- Each claimed solution is correct and has a certificate, or has a first flaw, or has a cycle of remaining edges that
-- is lost by the player who is claimed to win the cycle's vertices.
use Rattle.std.proofs.Common.{◌≡◌, ◌⊎◌, inl, inr, ℕ, ◌<◌, List, map, Option, Bool, not, refl, arith, rules}
use Rattle.std.specs.List.{range_with_len}
use Rattle.std.proofs.lemmas.List.FromFn.{get_or-map-range_with_len}
use Rattle.ps_game.specs.Games.{ParityGame, IsGame, vertex_count}
use Rattle.ps_game.specs.Regions.{has, move_at}
use Rattle.ps_certificate.specs.Certificates.{CertificateData, IsClosed, IsFirstFlaw}
use Rattle.ps_certificate.specs.declared.flaw.Flaw.{Flaw}
use Rattle.ps_measure.specs.Ranks.{AreRanks, IsLostCycle}
use Rattle.ps_referee.specs.Solutions.{IsCertificateOf, IsCycleOf, IsSolution, claimed}
use Rattle.ps_referee.proofs.Judged.{first_holds, judged}
use Rattle.ps_referee.proofs.PlayersPart.{lost_same}

-- what the law `first_flaw_is_there` states, of which the lemmas below take a proof: a certificate has no wrong move or
-- edge (`IsClosed`), or it has a first flaw
abbrev pub ClosedOrFlawed : Type 0
ClosedOrFlawed = (game : ParityGame) (certificate : CertificateData) → IsClosed game certificate ⊎
    (¬ IsClosed game certificate × ((flaw : Flaw) × IsFirstFlaw game certificate flaw))

-- what the law `counts_are_there` states, of which the lemmas below take a proof: for a player, a set and a table of
-- moves, there are least counts, or there is a cycle within the set that the player loses
abbrev pub RanksOrCycle : Type 0
RanksOrCycle = (game : ParityGame) (player : ℕ) (set : ℕ → Bool) (table : ℕ → Option ℕ) →
    ((priorities : List ℕ) × (rows : List (List ℕ)) × AreRanks game player set table priorities rows) ⊎
    ((cycle : List ℕ) × IsLostCycle game player set table cycle)

module _ (flaws : ClosedOrFlawed) (counts : RanksOrCycle) (game : ParityGame) (is_game : IsGame game)
    (won : List Bool) (first second : List (Option ℕ)) where
  abbrev IsJudged : Type 0
  IsJudged = (IsSolution game won first second
      × ((certificate : CertificateData) × IsCertificateOf game won first second certificate))
      ⊎ ((flaw : Flaw) × IsFirstFlaw game (claimed game won first second) flaw)
      ⊎ ((player : ℕ) × (cycle : List ℕ) × IsCycleOf game won first second player cycle)

  -- the vertices that player 1 is claimed to win
  abbrev lost : List Bool
  lost = map (λ v. not (has won v)) (range_with_len 0 (vertex_count game))

  lost_is : (v : ℕ) → v < vertex_count game → has lost v ≡ not (has won v)
  lost_is v below = search (rules, get_or-map-range_with_len)

  with_second : IsClosed game (claimed game won first second) → (odd : List ℕ) (odd_rows : List (List ℕ)) →
      AreRanks game 0 (has won) (move_at first) odd odd_rows → IsJudged
  with_second closed odd odd_rows ranks = elim (counts game 1 (has lost) (move_at second)) [
    | inl (even, even_rows, even_ranks) ↦
        let both = judged game won first second lost is_game closed lost_is odd even odd_rows even_rows _ ranks
        even_ranks refl in
        inl (both.0, (_, both.1))
    | inr (cycle, loses) ↦ inr (inr (
      1,
      cycle,
      record {
        closed = closed;
        is_player = omega arith;
        lost = lost_same lost_is is_game loses;
        first_holds = λ _. first_holds game won first second lost is_game closed lost_is ranks;
      },
    ))
  ]

  with_closed : IsClosed game (claimed game won first second) → IsJudged
  with_closed closed = elim (counts game 0 (has won) (move_at first)) [
    | inl (odd, odd_rows, ranks) ↦ with_second closed odd odd_rows ranks
    | inr (cycle, loses) ↦ inr (inr (
      0,
      cycle,
      record {
        closed = closed;
        is_player = omega arith;
        lost = loses;
        first_holds = λ e. absurd (omega (arith, e));
      },
    ))
  ]

  pub some_judgement : IsJudged
  some_judgement = elim (flaws game (claimed game won first second)) [
    | inl closed ↦ with_closed closed
    | inr (open_at, found) ↦ inr (inl found)
  ]
