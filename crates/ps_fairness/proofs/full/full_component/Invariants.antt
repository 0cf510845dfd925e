use Rattle.std.proofs.Common.{ℕ, ◌<◌}
use Rattle.ps_fairness.specs.Inner.Inside.{LacksOne}
use Rattle.ps_fairness.proofs.full.full_component.Given as goal

abbrev pub invariant-loop-number : goal.invariant-loop-number
invariant-loop-number g l = (number : ℕ) → number < l.number →
    LacksOne (g.G.Graph.graph l.graph) (g.G.Marked.marks l.graph) l.components number
