use Rattle.std.proofs.Common.{◌≡◌, ◌++◌}
use Rattle.ps_components.specs.Searching.{waits}
use Rattle.ps_components.proofs.search.wait.Given as goal

abbrev pub invariant-loop-place : goal.invariant-loop-place
invariant-loop-place g l =
    l.pending.items ≡ l.initial.pending.items ++ waits (g.G.Graph.graph l.graph) l.from l.item l.place
