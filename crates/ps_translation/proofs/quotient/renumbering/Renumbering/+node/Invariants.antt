use Rattle.ps_translation.proofs.quotient.renumbering.Renumbering.+node.Given as goal

abbrev pub decreases-node : goal.decreases-node
decreases-node l = l.depth
