use Rattle.std.proofs.Common.{◌≡◌, ℕ, ◌+◌, ◌<◌, ◌≤◌, ◌⊎◌, length, get_or, false}
use Rattle.ps_simulate.proofs.simulator.put.Given as goal

abbrev pub invariant-loop-place : goal.invariant-loop-place
invariant-loop-place l = record {
  done : (k : ℕ) → k < l.place → get_or l.values (l.start + k) false ≡ get_or l.bits k false;
  others : (p : ℕ) → (p < l.start) ⊎ (l.start + length l.bits ≤ p) →
      get_or l.values p false ≡ get_or l.initial.values p false;
}
