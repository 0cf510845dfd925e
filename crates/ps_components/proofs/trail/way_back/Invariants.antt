use Rattle.std.proofs.Common.{◌≡◌, ◌≢◌, ℕ, ◌+◌, ◌-◌, ◌<◌, length, slice_get, Some}
use Rattle.ps_components.specs.declared.trail.Step.{Step}
use Rattle.ps_components.specs.Inner.Spreading.{IsSpread, unseen}
use Rattle.ps_components.proofs.trail.way_back.Given as goal

abbrev pub invariant-loop-place : goal.invariant-loop-place
invariant-loop-place g l = record {
  spread : IsSpread (g.G.Graph.graph l.graph) l.spread.seen.items l.spread.steps.items l.place;
  first : slice_get l.spread.steps.items 0 ≡ Some (record { item = l.start; from = 0 });
  passed : (i : ℕ) (s : Step) → i < l.place → slice_get l.spread.steps.items i ≡ Some s → s.item ≢ l.end;
}

abbrev pub decreases-loop-place : goal.decreases-loop-place
decreases-loop-place g l = unseen l.spread.seen.items + length l.spread.steps.items - l.place
