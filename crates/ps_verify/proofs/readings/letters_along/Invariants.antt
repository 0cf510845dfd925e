use Rattle.std.proofs.Common.{take}
use Rattle.ps_simulate.specs.Stimuli.{letters_of}
use Rattle.ps_verify.specs.Inner.Readings.{ReadsPath}
use Rattle.ps_verify.proofs.readings.letters_along.Given as goal

abbrev pub invariant-loop-place : goal.invariant-loop-place
invariant-loop-place l = ReadsPath l.product (take l.place l.path) (letters_of l.letters.items)
