-- The game of a file is the game of an automaton that the file describes.
-- - `board_of_file order file auto`: the board of an automaton of the file
-- - `IsGameOfFile order file game`: the game that an automaton of the file defines, for the given order of moves
use Rattle.std.specs.Prelude.{◌≡◌, List, length, Some}
use Rattle.ps_automaton.specs.Autos.{Auto, IsAutoOf}
use Rattle.ps_automaton.specs.Chains.{Chain, chain_of}
use Rattle.ps_game.specs.Games.{NamedGameData}
use Rattle.ps_hoa.specs.Files.{FileData}
use Rattle.ps_machine.specs.Boards.{Board, IsGameOf, is_first_of}
use Rattle.ps_machine.specs.KeyNames.{AreNamed}
use Rattle.ps_machine.specs.Keys.{mover_of}
use Rattle.ps_machine.specs.declared.key.Key.{Key}
use Rattle.ps_machine.specs.declared.key.Order.{Order}

abbrev pub board_of_file : Order → FileData → Auto → Board
board_of_file order file auto =
    record {
      auto = auto;
      states = file.states;
      propositions = length file.names;
      is_first = is_first_of order file.controllable;
    }

-- the game is the game of an automaton of the file, and the name of each vertex states what the vertex stands for (its
-- key)
pub record IsGameOfFile (order : Order) (file : FileData) (game : NamedGameData) : Type 0 where
  pub chain : Chain
  pub is_chain : chain_of file.condition ≡ Some chain
  pub auto : Auto
  pub is_auto : IsAutoOf file chain auto
  pub keys : List Key
  pub is_game : IsGameOf (board_of_file order file auto) (mover_of order) keys game.game
  pub are_named : AreNamed (board_of_file order file auto) keys game
