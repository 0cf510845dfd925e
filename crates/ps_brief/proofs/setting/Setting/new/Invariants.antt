use Rattle.std.proofs.Common.{◌≡◌, not}
use Rattle.ps_diagram.specs.Letters.{letter_of}
use Rattle.ps_machine.specs.Boards.{is_first_of}
use Rattle.ps_brief.proofs.setting.Setting.new.Given as goal

-- the masks have the propositions of the two players among those that were visited so far
abbrev pub invariant-loop-proposition : goal.invariant-loop-proposition
invariant-loop-proposition l = record {
  first : l.first ≡ letter_of l.proposition (is_first_of l.order l.automaton.controllable);
  second : l.second ≡ letter_of l.proposition (λ p. not (is_first_of l.order l.automaton.controllable p));
}
