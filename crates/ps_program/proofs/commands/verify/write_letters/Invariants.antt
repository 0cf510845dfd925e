use Rattle.std.proofs.Common.{◌≡◌, ◌++◌, take}
use Rattle.ps_simulate.specs.Stimuli.{letters_of}
use Rattle.ps_program.specs.Commands.Verifying.{letter_lines}
use Rattle.ps_program.proofs.commands.verify.write_letters.Given as goal

-- the lines of the letters before the loop's index have been written
abbrev pub invariant-loop-letter : goal.invariant-loop-letter
invariant-loop-letter l =
    l.text.items ≡ l.initial.text.items ++ letter_lines (letters_of (take l.letter-index l.letters))
