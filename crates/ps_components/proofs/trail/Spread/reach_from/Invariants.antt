use Rattle.std.proofs.Common.{◌≡◌, ℕ, ◌+◌, ◌<◌, ◌≤◌, length, slice_get, true, Some}
use Rattle.ps_components.specs.Inner.Spreading.{IsSpread, KeepsSteps, unseen}
use Rattle.ps_components.proofs.trail.Spread.reach_from.Given as goal

abbrev pub invariant-loop-number : goal.invariant-loop-number
invariant-loop-number g l = record {
  spread : IsSpread (g.G.Graph.graph l.graph) l.self.seen.items l.self.steps.items l.place;
  kept : KeepsSteps l.initial.self.steps.items l.self.steps.items;
  fewer : unseen l.self.seen.items + length l.self.steps.items ≤ unseen l.initial.self.seen.items + length
      l.initial.self.steps.items;
  looked : (n w : ℕ) → n < l.number → (g.G.Graph.graph l.graph).target l.item n ≡ Some w →
      slice_get l.self.seen.items w ≡ Some true;
}
