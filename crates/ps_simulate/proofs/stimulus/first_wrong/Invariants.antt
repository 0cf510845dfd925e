use Rattle.std.proofs.Common.{ℕ, ◌<◌, get_or}
use Rattle.ps_simulate.specs.StimulusTexts.{IsDigit}
use Rattle.ps_simulate.proofs.stimulus.first_wrong.Given as goal

abbrev pub invariant-loop-place : goal.invariant-loop-place
invariant-loop-place l = (k : ℕ) → k < l.place → IsDigit (get_or l.line k 0)
