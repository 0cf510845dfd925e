use Rattle.std.proofs.Common.{◌≡◌, ℕ, ◌<◌, ◌≤◌, length, slice_get, Some}
use Rattle.ps_components.specs.declared.trail.Step.{Step}
use Rattle.ps_components.specs.Trails.{IsTrail}
use Rattle.ps_components.proofs.trail.trail_from.Given as goal

abbrev pub invariant-loop-at : goal.invariant-loop-at
invariant-loop-at g l = record {
  within : l.at < length l.steps;
  trail : (e s : Step) → slice_get l.steps l.place ≡ Some e → slice_get l.steps l.at ≡ Some s →
      IsTrail (g.G.Graph.graph l.graph) l.items.items e.item s.item;
  placed : (k v : ℕ) → slice_get l.items.items k ≡ Some v → (i : ℕ) × (s : Step) × (l.at ≤ i) ×
      (slice_get l.steps i ≡ Some s) × (s.item ≡ v);
}

abbrev pub decreases-loop-at : goal.decreases-loop-at
decreases-loop-at g l = l.at
