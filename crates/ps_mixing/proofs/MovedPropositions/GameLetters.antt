-- In an automaton's game, the letter that a vertex of the second player stands for is a letter of the first player.
use Rattle.std.specs.Prelude.{ℕ, ◌<◌, List}
use Rattle.ps_game.specs.Games.{ParityGame, vertex_count}
use Rattle.ps_machine.specs.Boards.{Board, IsFirstLetter, IsGameOf, LeadsTo}
use Rattle.ps_machine.specs.Numbering.{StandsAt}
use Rattle.ps_machine.specs.declared.key.Key.{Key}
use Rattle.ps_machine.specs.declared.key.Key.TheVariants.{First, Second}
use Rattle.ps_basis.proofs.ArenaKeys.{below_keys, entered_from}
use Rattle.ps_basis.proofs.GameSteps.{after_start, into_second}

pub letter_of_key : (board : Board) (mover : ℕ) (keys : List Key) (game : ParityGame) → IsGameOf board mover keys game →
    (v q x : ℕ) → StandsAt keys v (Second q x) → IsFirstLetter board x
letter_of_key board mover keys game is v q x at =
    let below : v < vertex_count game =
    below_keys (LeadsTo board) mover (First board.auto.start 0) keys game is.by_keys v (Second q x) at in
    let (u, edge) = entered_from game v is.numbered (after_start board mover keys game is v q x at) below in
    (into_second board mover keys game is u v q x at edge).is_class.here.0
