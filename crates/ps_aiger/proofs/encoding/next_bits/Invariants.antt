use Rattle.std.proofs.Common.{◌≡◌, ℕ, ◌<◌, length, Some, slice_get}
use Rattle.ps_aiger.specs.declared.stored.Wanted.TheVariants.{Next}
use Rattle.ps_aiger.proofs.encoding.next_bits.Given as goal

abbrev pub invariant-loop-bit : goal.invariant-loop-bit
invariant-loop-bit l = record {
  many : length l.bits.items ≡ l.bit;
  each : (k : ℕ) → k < l.bit → slice_get l.bits.items k ≡ Some (Next k);
}
