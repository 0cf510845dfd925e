use Rattle.std.proofs.Common.{◌≡◌, ℕ, ◌<◌, Some}
use Rattle.ps_components.specs.ComponentLists.{IsIn}
use Rattle.ps_components.specs.Orders.{IsKnot}
use Rattle.ps_components.proofs.arranging.first_knot.Given as goal

abbrev pub invariant-loop-item : goal.invariant-loop-item
invariant-loop-item g l = (i : ℕ) → i < l.item → ¬ IsKnot (g.G.Graph.graph l.graph) l.components i

abbrev pub invariant-loop-place : goal.invariant-loop-place
invariant-loop-place g l = (n w k : ℕ) → n < l.place → (g.G.Graph.graph l.graph).target l.item n ≡ Some w →
    IsIn l.components l.item k → ¬ IsIn l.components w k
