use Rattle.std.proofs.Common.{not}
use Rattle.ps_machine.specs.Inner.Assembling.{AreListedBelow}
use Rattle.ps_machine.specs.BuiltBoards.{board_of}
use Rattle.ps_machine.specs.Extracting.{is_others}
use Rattle.ps_machine.proofs.extracting.roles.Given as goal

-- each proposition that was visited so far is in the list of propositions that the machine reads, or in the list of
-- propositions that it outputs
abbrev pub invariant-loop-proposition : goal.invariant-loop-proposition
invariant-loop-proposition l = record {
  read : AreListedBelow l.proposition (is_others l.moves_first (board_of l.order l.automaton)) l.inputs.items;
  played : AreListedBelow l.proposition (λ p. not (is_others l.moves_first (board_of l.order l.automaton) p))
      l.outputs.items;
}
