use Rattle.std.proofs.Common.{◌≡◌, Some, map, take}
use Rattle.std.specs.List.{All}
use Rattle.ps_game.specs.Games.{HasNoQuote}
use Rattle.ps_machine.specs.BuiltBoards.{board_of}
use Rattle.ps_machine.specs.KeyNames.{key_names}
use Rattle.ps_machine.proofs.game.names_of.Given as goal

-- for each vertex key that was visited so far, the list has the vertex's name
abbrev pub invariant-loop-key : goal.invariant-loop-key
invariant-loop-key l = record {
  names : map Some l.names ≡ key_names (board_of l.order l.automaton) (take l.key-index l.keys);
  plain : All HasNoQuote (map Some l.names);
}
