use Rattle.std.proofs.Common.{◌≡◌, ℕ, ◌+◌, ◌*◌, ◌<◌, length, Some, slice_get}
use Rattle.ps_shrink.specs.declared.assembling.Cell.{Cell}
use Rattle.ps_shrink.proofs.assembling.latches_of.Given as goal

abbrev pub invariant-loop-place : goal.invariant-loop-place
invariant-loop-place l = record {
  many : length l.latches.items ≡ l.place;
  each : (k : ℕ) (cell : Cell) → k < l.place → slice_get l.fn.cells k ≡ Some cell → slice_get l.latches.items k ≡ Some
      (record { literal = 2 * (l.first + k); next = cell.next; reset = cell.reset });
}
