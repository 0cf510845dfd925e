use Rattle.std.proofs.Common.{◌-◌, length}
use Rattle.ps_tableau_product.specs.Inner.States.{HaveMoreEdges, states_data}
use Rattle.ps_tableau_product.proofs.states.States.reach.Given as goal

abbrev pub invariant-loop-self : goal.invariant-loop-self
invariant-loop-self l = HaveMoreEdges (states_data l.fn.self) (states_data l.self)

abbrev pub decreases-loop-self : goal.decreases-loop-self
decreases-loop-self l = l.count - length l.self.edges.items
