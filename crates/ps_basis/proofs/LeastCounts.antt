-- A valid certificate has counterparts with the same winners and moves, one of which has the least counts.
use Rattle.std.specs.Prelude.{◌≡◌, ◌≢◌, ℕ, zero, suc, ◌<◌, ◌==◌, if◌then◌else◌, Bool, true, false, not, List, map}
use Rattle.std.specs.Prelude.{Option}
use Rattle.std.specs.Prelude.{None}
use Rattle.std.specs.List.{range_with_len}
use Rattle.std.proofs.Common.{sym, ◌∙◌, ap, refl, inl, inr, arith}
use Rattle.std.proofs.lemmas.Bool.{cases_eq}
use Rattle.std.proofs.lemmas.Bool.Decides.{nat_tests}
use Rattle.std.proofs.lemmas.List.FromFn.{get_or-map-range_with_len}
use Rattle.ps_game.specs.Games.{ParityGame, IsGame, vertex_count, owner_of}
use Rattle.ps_game.specs.Regions.{has, move_at}
use Rattle.ps_certificate.specs.Certificates.{CertificateData, Fits, IsValid, winner_of, choice_of}
use Rattle.ps_certificate.specs.Regions.{BothHold}
use Rattle.ps_solver.proofs.CertificateThere.{NoCycle, NoFlaw, SolutionJudged, holds_by}
use Rattle.ps_referee.specs.Solutions.{IsCertificateOf, IsSolution, choice_by, moves_by, winner_by}
use Rattle.ps_referee.proofs.Claims.{choice_is, winner_is}
use Rattle.ps_referee.proofs.PlayersPart.{holds_same}
use Rattle.ps_basis.specs.Counterparts.{IsLeastCounterpart}

-- a law of another crate, which `least_there` takes as an argument
abbrev pub RegionsHeld : Type 0
RegionsHeld = (game : ParityGame) (certificate : CertificateData) → Fits game certificate → IsValid game certificate →
    BothHold game certificate

test_true : (m n : ℕ) → m ≡ n → (m == n) ≡ true
test_true m n same = grind (arith, nat_tests)

test_false : (m n : ℕ) → m ≢ n → (m == n) ≡ false
test_false m n differ = grind (arith, nat_tests)

one_or_zero : (w : ℕ) → w < 2 → (w == 1) ≡ not (w == 0)
one_or_zero zero small = refl
one_or_zero (suc zero) small = refl
one_or_zero (suc (suc n)) small = absurd (omega (arith, small))

claimed_winner : (w : ℕ) → w < 2 → (b : Bool) → b ≡ (w == 0) → (if b then 0 else 1) ≡ w
claimed_winner zero small true is = refl
claimed_winner zero small false is = absurd (cc is)
claimed_winner (suc zero) small true is = absurd (cc is)
claimed_winner (suc zero) small false is = refl
claimed_winner (suc (suc n)) small b is = absurd (omega (arith, small))

module _ (game : ParityGame) (c : CertificateData) (fits : Fits game c) (valid : IsValid game c) where
  abbrev won : List Bool
  won = map (λ v. winner_of c v == 0) (range_with_len 0 (vertex_count game))

  abbrev moves : List (Option ℕ)
  moves = map (λ v. choice_of c v) (range_with_len 0 (vertex_count game))

  won_is : (v : ℕ) → v < vertex_count game → has won v ≡ (winner_of c v == 0)
  won_is v below = get_or-map-range_with_len (λ x. winner_of c x == 0) 0 (vertex_count game) v v false below
      (omega arith)

  moves_is : (v : ℕ) → v < vertex_count game → move_at moves v ≡ choice_of c v
  moves_is v below = get_or-map-range_with_len (λ x. choice_of c x) 0 (vertex_count game) v v None below (omega arith)

  rest_is : (v : ℕ) → v < vertex_count game → (winner_of c v == 1) ≡ not (has won v)
  rest_is v below = rw (won_is v below) (one_or_zero (winner_of c v) (fits.winners v below))

  solution : BothHold game c → IsSolution game won moves moves
  solution both = record {
    first_holds = holds_by (move_at moves) moves_is
        (holds_same (λ v below. sym (won_is v below)) (both 0 (omega arith)));
    second_holds = holds_by (move_at moves) moves_is (holds_same rest_is (both 1 (omega arith)));
  }

  winner_same : (v : ℕ) → v < vertex_count game → winner_by won v ≡ winner_of c v
  winner_same v below = claimed_winner (winner_of c v) (fits.winners v below) (has won v) (won_is v below)

  choice_same : (v : ℕ) → v < vertex_count game → choice_by game won moves moves v ≡ choice_of c v
  choice_same v below = elim (cases_eq (owner_of game v) (winner_of c v)) [
    | inl own ↦ by_test true (same_test own) ∙ by_player (winner_by won v == 0)
    | inr other ↦ by_test false (other_test other) ∙ sym ((valid.closed.moves v below).other other)
  ]
    where
      same_test : owner_of game v ≡ winner_of c v → (owner_of game v == winner_by won v) ≡ true
      same_test own = test_true _ _ (own ∙ sym (winner_same v below))

      other_test : owner_of game v ≢ winner_of c v → (owner_of game v == winner_by won v) ≡ false
      other_test other = test_false _ _ (λ own. other (own ∙ winner_same v below))

      by_player : (b : Bool) → (if b then move_at moves v else move_at moves v) ≡ choice_of c v
      by_player true = moves_is v below
      by_player false = moves_is v below

      by_test : (b : Bool) → (owner_of game v == winner_by won v) ≡ b →
          choice_by game won moves moves v ≡ (if b then moves_by moves moves (winner_by won v) v else None)
      by_test b is = ap (λ (t : Bool). if t then moves_by moves moves (winner_by won v) v else None) is

  counterpart : (d : CertificateData) → IsCertificateOf game won moves moves d → IsLeastCounterpart game c d
  counterpart d of = record {
    same = record {
      winners = λ v below. sym (winner_same v below) ∙ sym (winner_is game won moves moves v below) ∙
          of.same.winners v below;
      moves = λ v below. sym (choice_same v below) ∙ sym (choice_is game won moves moves v below) ∙
          of.same.moves v below;
    };
    fits = of.fits;
    valid = of.valid;
    least = of.least;
  }

pub least_there : RegionsHeld → SolutionJudged → NoFlaw → NoCycle → (game : ParityGame) (c : CertificateData) →
    IsGame game → Fits game c → IsValid game c → (d : CertificateData) × IsLeastCounterpart game c d
least_there held judged no_flaw no_cycle game c well fits valid =
    let is : IsSolution game (won game c fits valid) (moves game c fits valid) (moves game c fits valid) =
    solution game c fits valid (held game c fits valid) in
    elim (judged game (won game c fits valid) (moves game c fits valid) (moves game c fits valid) well) [
      | inl (_, (d, of)) ↦ (d, counterpart game c fits valid d of)
      | inr (inl (flaw, found)) ↦ absurd (no_flaw game _ _ _ flaw well is found)
      | inr (inr (player, cycle, lost)) ↦ absurd (no_cycle game _ _ _ player cycle is lost)
    ]
