use Rattle.std.proofs.Common.{◌≢◌, ℕ, ◌<◌, Some}
use Rattle.ps_fairness.proofs.cycles.edge_to.Given as goal

abbrev pub invariant-loop-slot : goal.invariant-loop-slot
invariant-loop-slot g l = (slot : ℕ) → slot < l.slot → (g.G.Graph.graph l.graph).target l.from slot ≢ Some l.to
