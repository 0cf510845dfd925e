use Rattle.std.proofs.Common.{◌≡◌, ◌++◌}
use Rattle.ps_machine.specs.BuiltBoards.{board_of}
use Rattle.ps_machine.specs.KeyNames.{first_digits}
use Rattle.ps_machine.specs.Inner.Naming.{IsPlain}
use Rattle.ps_machine.proofs.game.write_digits.Given as goal

abbrev pub invariant-loop-proposition : goal.invariant-loop-proposition
invariant-loop-proposition l = record {
  bytes : l.out.items ≡ l.initial.out.items ++ first_digits (board_of l.fn.order l.automaton) l.letter l.proposition;
  plain : IsPlain (first_digits (board_of l.fn.order l.automaton) l.letter l.proposition);
}
