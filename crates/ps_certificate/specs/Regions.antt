-- What a certificate claims about a game: each player wins from every vertex of a region by the given moves.
use Rattle.std.specs.Prelude.{◌≢◌, ℕ, ◌<◌, Bool, ◌==◌}
use Rattle.ps_game.specs.Games.{ParityGame, vertex_count}
use Rattle.ps_game.specs.Plays.{KeepsTo, Holds}
use Rattle.ps_game.specs.Strategies.{WinsByNoMemory, AllHistoriesBeaten}
use Rattle.ps_certificate.specs.Certificates.{CertificateData, winner_of, choice_of}

-- the region of a player: the vertices that the certificate says the player wins
abbrev pub region_of : CertificateData → ℕ → ℕ → Bool
region_of certificate player v = winner_of certificate v == player

-- each player's moves in the certificate are edges, and a path that follows these moves from the player's region stays
-- in the region
abbrev pub BothKeep : ParityGame → CertificateData → Type 0
BothKeep game certificate =
    (player : ℕ) → player < 2 → KeepsTo game player (region_of certificate player) (choice_of certificate)

-- each player who follows the certificate's moves, from the player's own region, stays in this region and wins there
abbrev pub BothHold : ParityGame → CertificateData → Type 0
BothHold game certificate =
    (player : ℕ) → player < 2 → Holds game player (region_of certificate player) (choice_of certificate)

-- the player wins from vertex `v` neither by a strategy of finite memory nor by a history table, which maps each play
-- so far to a move
pub record WinsNothingAt (game : ParityGame) (player v : ℕ) : Type 0 where
  pub by_memory : WinsByNoMemory game player v
  pub by_histories : AllHistoriesBeaten game player v

abbrev pub NoneWinsOutside : ParityGame → CertificateData → Type 0
NoneWinsOutside game certificate =
    (player : ℕ) → player < 2 → (v : ℕ) → v < vertex_count game → winner_of certificate v ≢ player →
    WinsNothingAt game player v
