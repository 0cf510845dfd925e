-- Who wins the loops of a game in which only one player moves.
-- - `WinsLoops game player`: the player wins all loops: for each priority of the opponent's parity, there are counts (a
--   progress measure) that satisfy the rules of a certificate
-- - `IsLostRound game player cycle`: a cycle of edges whose greatest priority has the opponent's parity
-- - `IsTurned old new`: `new` is the cycle `old`, rotated so that it begins with its smallest vertex
use Rattle.std.specs.Prelude.{◌≡◌, ℕ, ◌%◌, ◌<◌, ◌≤◌, List, [], ◌∷◌, ◌++◌, length, map, slice_index, take}
use Rattle.std.specs.Prelude.{drop}
use Rattle.ps_game.specs.Games.{ParityGame, HasEdge, priority_of}
use Rattle.ps_game.specs.Plays.{IsPath, greatest, other_player}
use Rattle.ps_game.specs.Ranking.{KeepsRule}

pub record HasCounts (game : ParityGame) (priority : ℕ) : Type 0 where
  pub count : ℕ → ℕ
  pub keep : (v w : ℕ) → HasEdge game v w → KeepsRule priority (priority_of game v) (priority_of game w) (count v)
      (count w)

abbrev pub WinsLoops : ParityGame → ℕ → Type 0
WinsLoops game player = (priority : ℕ) → priority % 2 ≡ other_player player → HasCounts game priority

-- a cycle followed by its first vertex
abbrev pub round_of : List ℕ → List ℕ
round_of cycle = cycle ++ slice_index cycle 0 ∷ []

pub record IsLostRound (game : ParityGame) (player : ℕ) (cycle : List ℕ) : Type 0 where
  pub some : 0 < length cycle
  pub is_path : IsPath game (round_of cycle)
  pub lost : greatest (map (priority_of game) cycle) % 2 ≡ other_player player

-- `new` is the cycle `old`, rotated so that it begins with its smallest vertex
pub record IsTurned (old new : List ℕ) : Type 0 where
  pub place : ℕ
  pub within : place < length old
  pub least : (k : ℕ) → k < length old → slice_index old place ≤ slice_index old k
  pub new_is : new ≡ drop place old ++ take place old
