use Rattle.std.proofs.Common.{◌≡◌}
use Rattle.ps_diagram.specs.Table.{IsNode, leaf_of}
use Rattle.ps_diagram.proofs.store.Store.eval.Given as goal

abbrev pub invariant-loop-value : goal.invariant-loop-value
invariant-loop-value l = IsNode l.self l.place × (leaf_of l.self l.place l.letter ≡ leaf_of l.self l.fn.node l.letter)

abbrev pub decreases-loop-value : goal.decreases-loop-value
decreases-loop-value l = l.place
