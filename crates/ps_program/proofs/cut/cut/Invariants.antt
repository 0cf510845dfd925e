use Rattle.std.proofs.Common.{◌≡◌, ◌<◌, ◌≤◌, ◌-◌, ℕ, false, length}
use Rattle.ps_program.specs.Cut.{is_separator}
use Rattle.ps_program.proofs.cut.cut.Given as goal

abbrev pub invariant-loop-separator : goal.invariant-loop-separator
invariant-loop-separator l = record {
  within : l.from ≤ length l.texts;
  none : (place : ℕ) → place < l.from → is_separator l.texts place ≡ false;
}

abbrev pub decreases-loop-separator : goal.decreases-loop-separator
decreases-loop-separator l = length l.texts - l.from
