use Rattle.std.proofs.Common.{◌≡◌, ℕ, ◌<◌, get_or, length, Some, slice_get}
use Rattle.ps_aiger.specs.declared.stored.Wanted.TheVariants.{Output}
use Rattle.ps_aiger.specs.Inner.Functions.{behaviour_of}
use Rattle.ps_aiger.proofs.encoding.output_bits.Given as goal

abbrev pub invariant-loop-place : goal.invariant-loop-place
invariant-loop-place l = record {
  many : length l.bits.items ≡ l.place;
  each : (k : ℕ) → k < l.place → slice_get l.bits.items k ≡ Some
      (Output k (get_or (behaviour_of l.machine).outputs k 0));
}
