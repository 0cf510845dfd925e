-- Claimed solutions of a game: the vertices that player 0 is claimed to win, and a table of moves for each player.
-- Player 1 is claimed to win all other vertices.
-- - `won_by`: the vertices that a player is claimed to win.
-- - `moves_by`: the table of moves of a player.
-- - `claimed`: the claimed solution as a certificate without priorities and counts.
-- - `AreSizedFor`: the region and both tables of moves have an entry for each vertex.
-- - `IsSolution`: the solution is correct: by its table of moves, each player stays among the vertices that it is
--   claimed to win, and wins there.
-- - `IsCycleOf`: the solution has no flaw, but has the given cycle, which the player loses.
-- - `IsRefusal`: the fault states what is wrong with the solution.
-- - `IsCertificateOf`: the certificate is valid, and has the winners and moves of the solution and the least counts.
use Rattle.std.specs.Prelude.{◌≡◌, ℕ, ◌<◌, ◌==◌, if◌then◌else◌, List, [], length, map, Option, None, Bool, not}
use Rattle.std.specs.List.{range_with_len}
use Rattle.ps_game.specs.Games.{ParityGame, vertex_count, owner_of}
use Rattle.ps_game.specs.Plays.{Holds}
use Rattle.ps_game.specs.Regions.{has, move_at}
use Rattle.ps_certificate.specs.Certificates.{EntryData, CertificateData, Fits, IsClosed, IsFirstFlaw, IsValid}
use Rattle.ps_certificate.specs.Least.{SaysTheSame, HasLeastCounts}
use Rattle.ps_measure.specs.Ranks.{IsLostCycle}
use Rattle.ps_referee.specs.declared.fault.JudgeFault.{JudgeFault}
use Rattle.ps_referee.specs.declared.fault.JudgeFault.TheVariants.{Unclosed, BadCycle, OutOfMemory}

abbrev pub won_by : List Bool → ℕ → ℕ → Bool
won_by won player v = if player == 0 then has won v else not (has won v)

abbrev pub moves_by : List (Option ℕ) → List (Option ℕ) → ℕ → ℕ → Option ℕ
moves_by first second player v = if player == 0 then move_at first v else move_at second v

-- the player who is claimed to win a vertex
abbrev pub winner_by : List Bool → ℕ → ℕ
winner_by won v = if has won v then 0 else 1

-- the winner's move at a vertex that the winner owns; the table of the other player is ignored
abbrev pub choice_by : ParityGame → List Bool → List (Option ℕ) → List (Option ℕ) → ℕ → Option ℕ
choice_by game won first second v =
    if owner_of game v == winner_by won v then moves_by first second (winner_by won v) v else None

-- the certificate's entry for a vertex: its claimed winner, the winner's move, and the given counts
abbrev pub claim_with : ParityGame → List Bool → List (Option ℕ) → List (Option ℕ) → ℕ → List ℕ → EntryData
claim_with game won first second v counts =
    record { winner = winner_by won v; choice = choice_by game won first second v; counts = counts }

unfoldable pub claimed : ParityGame → List Bool → List (Option ℕ) → List (Option ℕ) → CertificateData
claimed game won first second = record {
  odd = [];
  even = [];
  entries = map (λ v. claim_with game won first second v []) (range_with_len 0 (vertex_count game));
}

-- the region and the tables of moves have an entry for each vertex
pub record AreSizedFor (game : ParityGame) (won : List Bool) (first second : List (Option ℕ)) : Type 0 where
  pub won_sized : length won ≡ vertex_count game
  pub first_sized : length first ≡ vertex_count game
  pub second_sized : length second ≡ vertex_count game

pub record IsSolution (game : ParityGame) (won : List Bool) (first second : List (Option ℕ)) : Type 0 where
  pub first_holds : Holds game 0 (has won) (move_at first)
  pub second_holds : Holds game 1 (λ v. not (has won v)) (move_at second)

-- No move of the solution is wrong, and each remaining edge leads to a vertex with the same winner, but the player
-- loses the given cycle of remaining edges. If player 1 loses the cycle, player 0's table of moves wins at all vertices
-- that player 0 is claimed to win.
pub record IsCycleOf (game : ParityGame) (won : List Bool) (first second : List (Option ℕ)) (player : ℕ)
    (cycle : List ℕ) : Type 0 where
  pub closed : IsClosed game (claimed game won first second)
  pub is_player : player < 2
  pub lost : IsLostCycle game player (won_by won player) (moves_by first second player) cycle
  pub first_holds : player ≡ 1 → Holds game 0 (has won) (move_at first)

-- a reported flaw is the first flaw of the claimed solution, and a reported cycle is lost by the reported player; the
-- fault `OutOfMemory` guarantees nothing
abbrev pub IsRefusal : ParityGame → List Bool → List (Option ℕ) → List (Option ℕ) → JudgeFault → Type 0
IsRefusal game won first second (Unclosed flaw) = IsFirstFlaw game (claimed game won first second) flaw
IsRefusal game won first second (BadCycle player cycle) = IsCycleOf game won first second player cycle.items
IsRefusal game won first second OutOfMemory = Unit {0}

-- a valid certificate with the winners and moves of a solution, and the least counts
pub record IsCertificateOf (game : ParityGame) (won : List Bool) (first second : List (Option ℕ))
    (certificate : CertificateData) : Type 0 where
  pub same : SaysTheSame game (claimed game won first second) certificate
  pub fits : Fits game certificate
  pub valid : IsValid game certificate
  pub least : HasLeastCounts game certificate

-- the fault is out of memory
abbrev pub IsOutOfMemory : JudgeFault → Type 0
IsOutOfMemory (Unclosed flaw) = ⊥
IsOutOfMemory (BadCycle player cycle) = ⊥
IsOutOfMemory OutOfMemory = Unit {0}
