use Rattle.std.proofs.Common.{◌≡◌, ℕ, ◌-◌, ◌<◌, Some, length, slice_get}
use Rattle.ps_fairness.specs.Inner.Inside.{GoesOnTo}
use Rattle.ps_fairness.proofs.cycles.append_trail.Given as goal

abbrev pub invariant-loop-place : goal.invariant-loop-place
invariant-loop-place g l = record {
  within : l.place < length l.trail;
  goes : (v w : ℕ) → slice_get l.trail (length l.trail - 1) ≡ Some v → slice_get l.trail l.place ≡ Some w →
      GoesOnTo (g.G.Graph.graph l.graph) v w l.initial.walk.items l.walk.items;
}

abbrev pub decreases-loop-place : goal.decreases-loop-place
decreases-loop-place g l = l.place
