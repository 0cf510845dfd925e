-- A claimed solution, written as a certificate without counts: the winner and the move that it states for each vertex.
use Rattle.std.proofs.Common.{◌≡◌, ℕ, ◌<◌, List, [], get_or, Option, Bool}
use Rattle.std.proofs.Common.{ap, arith, length}
use Rattle.std.proofs.lemmas.List.FromFn.{get_or-map-range_with_len, length-map-range_with_len}
use Rattle.ps_game.specs.Games.{ParityGame, vertex_count}
use Rattle.ps_certificate.specs.Certificates.{no_entry, winner_of, choice_of}
use Rattle.ps_referee.specs.Solutions.{winner_by, choice_by, claim_with, claimed}

module _ (game : ParityGame) (won : List Bool) (first second : List (Option ℕ)) where
  pub entry_each : length (claimed game won first second).entries ≡ vertex_count game
  unfolding claimed
  entry_each = length-map-range_with_len (λ v. claim_with game won first second v []) 0 (vertex_count game)

  claim_at : (v : ℕ) → v < vertex_count game →
      get_or (claimed game won first second).entries v no_entry ≡ claim_with game won first second v []
  unfolding claimed
  claim_at v below = get_or-map-range_with_len (λ u. claim_with game won first second u []) 0 (vertex_count game) v v
      no_entry below (omega arith)

  pub winner_is : (v : ℕ) → v < vertex_count game → winner_of (claimed game won first second) v ≡ winner_by won v
  unfolding winner_of
  winner_is v below = ap (λ e. e.winner) (claim_at v below)

  pub choice_is : (v : ℕ) → v < vertex_count game →
      choice_of (claimed game won first second) v ≡ choice_by game won first second v
  unfolding choice_of
  choice_is v below = ap (λ e. e.choice) (claim_at v below)
