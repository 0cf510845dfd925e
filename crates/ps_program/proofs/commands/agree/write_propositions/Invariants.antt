use Rattle.std.proofs.Common.{◌≡◌, ◌++◌, take}
use Rattle.ps_program.specs.Commands.Comparing.{proposition_lines}
use Rattle.ps_program.proofs.commands.agree.write_propositions.Given as goal

-- the lines of the letters before the loop's index have been written
abbrev pub invariant-loop-letter : goal.invariant-loop-letter
invariant-loop-letter l =
    l.text.items ≡ l.initial.text.items ++ proposition_lines l.count (take l.letter-index l.letters)
