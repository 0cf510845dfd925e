-- An automaton that was built from a file defines the same game as the file.
use Rattle.std.proofs.Common.{◌≡◌, List, subst, rules}
use Rattle.ps_hoa.specs.Files.{FileData}
use Rattle.ps_automaton.specs.Automata.{AutomatonData, IsBuiltFrom, auto_of}
use Rattle.ps_automaton.specs.Chains.{Chain}
use Rattle.ps_game.specs.Games.{NamedGameData}
use Rattle.ps_machine.specs.Boards.{IsGameOf}
use Rattle.ps_machine.specs.BuiltBoards.{board_of}
use Rattle.ps_machine.specs.FileGames.{IsGameOfFile, board_of_file}
use Rattle.ps_machine.specs.KeyNames.{AreNamed}
use Rattle.ps_machine.specs.Keys.{mover_of}
use Rattle.ps_machine.specs.declared.key.Key.{Key}
use Rattle.ps_machine.specs.declared.key.Order.{Order}

pub board_is : (order : Order) {file : FileData} {chain : Chain} {a : AutomatonData} → IsBuiltFrom file chain a →
    board_of order a ≡ board_of_file order file (auto_of a)
board_is order {file} {a} built = search rules

abbrev pub game_of_file : (order : Order) (file : FileData) (chain : Chain) (a : AutomatonData) (keys : List Key)
    (game : NamedGameData) →
    IsGameOf (board_of order a) (mover_of order) keys game.game → AreNamed (board_of order a) keys game →
    IsBuiltFrom file chain a → IsGameOfFile order file game
game_of_file order file chain a keys game is_game are_named built = record {
  chain = chain;
  is_chain = built.is_chain;
  auto = auto_of a;
  is_auto = built.auto;
  keys = keys;
  is_game = subst (λ board. IsGameOf board (mover_of order) keys game.game) (board_is order built) is_game;
  are_named = subst (λ board. AreNamed board keys game) (board_is order built) are_named;
}
