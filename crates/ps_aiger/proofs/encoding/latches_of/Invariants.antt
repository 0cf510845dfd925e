use Rattle.std.proofs.Common.{◌≡◌, ℕ, ◌+◌, ◌*◌, ◌<◌, length, Some, slice_get, get_or, false}
use Rattle.ps_aiger.proofs.encoding.latches_of.Given as goal

abbrev pub invariant-loop-place : goal.invariant-loop-place
invariant-loop-place l = record {
  many : length l.latches.items ≡ l.place;
  each : (k : ℕ) → k < l.place → slice_get l.latches.items k ≡ Some
      (record { literal = 2 * (l.first + k); next = get_or l.fn.next k 0; reset = false });
}
