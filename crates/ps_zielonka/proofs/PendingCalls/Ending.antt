-- The end of the solver: once the game is solved, the region and the strategies by which both players hold their
-- vertices are read off.
use Rattle.std.proofs.Common.{◌≡◌, ℕ, ◌<◌, List, length, get_or, Option, Some, Bool, rules, arith}
use Rattle.std.specs.Prelude.{IsTrue, IsSome}
use Rattle.std.proofs.lemmas.Bool.{cases_eq, cases_lt, false≢true, not-true}
use Rattle.std.proofs.lemmas.List.{get_or_past}
use Rattle.ps_game.specs.Games.{ParityGame, vertex_count}
use Rattle.ps_game.specs.Plays.{Holds}
use Rattle.ps_game.specs.Regions.{has, move_at}
use Rattle.ps_game.proofs.PathsAndLoops.OnPaths.{Holds-HoldsWithin}
use Rattle.ps_zielonka.specs.Inner.Turns.{Solved}
use Rattle.ps_zielonka.specs.Answers.{others, IsWonRegionTo, AreWinningMovesTo, MovesAt, MovesWithin}
use Rattle.ps_attractor.specs.Tables.{TablesData}
use Rattle.ps_zielonka.specs.Inner.Nests.{from}
use Rattle.ps_zielonka.specs.Inner.Stacks.{IsSolvedBy}
use Rattle.ps_zielonka.proofs.PlacedVertices.Sets.{from_at, to_from}
use Rattle.ps_zielonka.proofs.DividedSubgames.HeldSets.{not_in, HoldsWithin-same}
use Rattle.ps_zielonka.proofs.DividedSubgames.Turning.{won_by, IsWon-won_by}

-- if a player holds a set, the player also holds each set that has the same vertices of the game
Holds-same : {game : ParityGame} {player : ℕ} {set : ℕ → Bool} (other : ℕ → Bool) {table : ℕ → Option ℕ} →
    ((v : ℕ) → v < vertex_count game → IsTrue (set v) → IsTrue (other v)) →
    ((v : ℕ) → v < vertex_count game → IsTrue (other v) → IsTrue (set v)) → Holds game player set table →
    Holds game player other table
Holds-same other there back holds = search rules

-- the winners and the moves solve the subgame `whole`, which has all vertices of the game
pub record IsSolved (game : ParityGame) (winner moves : List ℕ) (whole : ℕ → Bool) : Type 0 where
  pub all : (v : ℕ) → v < vertex_count game → IsTrue (whole v)
  pub only : (v : ℕ) → IsTrue (whole v) → v < vertex_count game
  pub solved : Solved game whole (λ v. get_or winner v 0) (λ v. Some (get_or moves v 0))

holds_won : {game : ParityGame} {winner moves : List ℕ} {whole : ℕ → Bool} {player : ℕ} {strategy : List (Option ℕ)} →
    IsSolved game winner moves whole → player < 2 →
    AreWinningMovesTo game moves winner player (vertex_count game) strategy →
    Holds game player (won_by whole (λ v. get_or winner v 0) player) (move_at strategy)
holds_won {game} {winner} {whole} {player} {strategy} is_solved is_player given =
    let win : ℕ → ℕ = λ v. get_or winner v 0 in
    let won = IsWon-won_by whole win player in
    Holds-HoldsWithin game player whole (won_by whole win player) (move_at strategy) is_solved.all
    (HoldsWithin-same (won_by whole win player) (move_at strategy) (λ v inside. inside) (λ v inside. inside)
    (λ v inside owns. grind arith) (is_solved.solved.held player (won_by whole win player) is_player won))

-- each vertex of a solved game has level 1 or higher (`IsSolvedBy`), so winners and moves that solve the vertices of
-- level 1 or higher solve the subgame of all vertices
IsSolved-tables : {game : ParityGame} {tables : TablesData} {winner : List ℕ} → IsSolvedBy game tables winner →
    IsSolved game winner tables.moves (from tables.level 1)
IsSolved-tables {game} {tables} solved_by = search (rules, to_from, cases_lt, get_or_past, from_at)

-- if a player's final strategy has a move at a vertex, the player wins and owns the vertex
move_is_given : {game : ParityGame} {moves winner : List ℕ} {player n : ℕ} (v : ℕ) {strategy : List (Option ℕ)} →
    AreWinningMovesTo game moves winner player n strategy → IsSome (move_at strategy v) →
    (v < n) × MovesAt game winner player v
move_is_given {game} {winner} {player} {n} v {strategy} given some = search (rules, cases_lt, cases_eq, false≢true)

-- the player holds the set by the strategy, which has moves only at the player's own vertices of the set
pub record IsPlayed (game : ParityGame) (player : ℕ) (set : ℕ → Bool) (strategy : List (Option ℕ)) : Type 0 where
  pub holds : Holds game player set (move_at strategy)
  pub moves : MovesWithin game player set strategy

-- consider the winners and the region that the code reads from the tables of a solved game
module _ {game : ParityGame} {tables : TablesData} {winner read again : List ℕ} {region : List Bool}
    (same : read ≡ winner) (same_again : again ≡ winner) (solved_by : IsSolvedBy game tables winner)
    (is_region : IsWonRegionTo read (length read) region) where
  whole : IsWonRegionTo winner (vertex_count game) region
  whole = rw (same, solved_by.winners) at is_region

  -- a player holds the set of exactly the vertices that the player wins
  played : {player : ℕ} (set : ℕ → Bool) {strategy : List (Option ℕ)} → player < 2 →
      ((v : ℕ) → v < vertex_count game → IsTrue (set v) → get_or winner v 0 ≡ player) →
      ((v : ℕ) → v < vertex_count game → get_or winner v 0 ≡ player → IsTrue (set v)) →
      AreWinningMovesTo game tables.moves again player (vertex_count game) strategy → IsPlayed game player set strategy
  played {player = player} set {strategy = strategy} is_player wins all given =
      let is_solved = IsSolved-tables solved_by in
      let won = IsWon-won_by (from tables.level 1) (λ v. get_or winner v 0) player in
      let moves = rw same_again at given in
      record {
        holds = Holds-same set (λ v is_vertex inside. all v is_vertex (won.won v inside))
            (λ v is_vertex inside. grind arith) (holds_won is_solved is_player moves);
        moves = search (rules, move_is_given);
      }

  -- player 0 holds the region of the result by the first strategy
  pub played_first : {strategy : List (Option ℕ)} →
      AreWinningMovesTo game tables.moves again 0 (vertex_count game) strategy → IsPlayed game 0 (has region) strategy
  played_first given = played (has region) (omega arith) whole.won whole.all given

  -- player 1 holds all vertices outside the region of the result by the second strategy
  pub played_second : {strategy : List (Option ℕ)} →
      AreWinningMovesTo game tables.moves again 1 (vertex_count game) strategy →
      IsPlayed game 1 (others region) strategy
  played_second given = played (others region) (omega arith) (λ v is_vertex inside. grind (
    arith,
    IsSolved-tables,
    false≢true,
    not_in,
    not-true,
  )) (λ v is_vertex wins. grind arith) given
