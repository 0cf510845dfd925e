use Rattle.ps_tableau_product.specs.Inner.Joining.{JoinsUpTo}
use Rattle.ps_tableau_product.proofs.joining.join.Given as goal

abbrev pub invariant-loop-leaf : goal.invariant-loop-leaf
invariant-loop-leaf l = JoinsUpTo l.automaton l.fn.vertices l.vertices l.met l.state l.cover l.fn.row.items l.row.items
    l.leaf-index
