use Rattle.std.proofs.Common.{ℕ, ◌^◌, ◌<◌}
use Rattle.ps_aiger.proofs.encoding.latches_for.Given as goal

abbrev pub invariant-loop-latches : goal.invariant-loop-latches
invariant-loop-latches l = (n : ℕ) → n < l.latches → 2 ^ n < l.memories
