use Rattle.std.proofs.Common.{◌-◌, length}
use Rattle.ps_tableau_product.proofs.TableauStates.ViewLemmas.{Padding}
use Rattle.ps_tableau_product.proofs.plan.Plan.nodes.Given as goal

abbrev pub invariant-loop-none : goal.invariant-loop-none
invariant-loop-none l =
    Padding l.store (length l.self.names.now) l.self.roles.now.outputs.items l.outputs l.nodes.items

abbrev pub decreases-loop-none : goal.decreases-loop-none
decreases-loop-none l = 64 - length l.nodes.items
