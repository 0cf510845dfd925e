use Rattle.std.proofs.Common.{ℕ, ◌<◌}
use Rattle.ps_fairness.specs.Inner.Inside.{AllInside, IsOnOne}
use Rattle.ps_fairness.proofs.full.marked_edges.Given as goal

abbrev pub invariant-loop-mark : goal.invariant-loop-mark
invariant-loop-mark g l = record {
  inside : AllInside (g.G.Graph.graph l.graph) l.components l.number l.edges.items;
  each : (mark : ℕ) → mark < l.mark → IsOnOne (g.G.Marked.marks l.graph) mark l.edges.items;
}
