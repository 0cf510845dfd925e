use Rattle.std.proofs.Common.{◌≡◌, ℕ, ◌<◌, length, get_or}
use Rattle.ps_mixing.proofs.order.places.Given as goal

abbrev pub invariant-loop-k : goal.invariant-loop-k
invariant-loop-k l = record {
  count : length l.to.items ≡ length l.from;
  places : (k d e : ℕ) → k < l.k → get_or l.to.items (get_or l.from k d) e ≡ k;
}
