use Rattle.std.proofs.Common.{◌≡◌, ℕ, ◌<◌, ◌≤◌, length}
use Rattle.ps_simulate.specs.NeededGates.{Needs, NeedsWhatItReads, numbered_row}
use Rattle.ps_simulate.proofs.needed.need_what_is_read.Given as goal

abbrev pub invariant-loop-number : goal.invariant-loop-number
invariant-loop-number l = record {
  size : length l.needed ≡ length l.initial.needed;
  done : (k : ℕ) → l.number ≤ k → k < length l.rows → NeedsWhatItReads l.needed (numbered_row l.rows k);
  kept : (p : ℕ) → Needs l.initial.needed p → Needs l.needed p;
}
