use Rattle.ps_symbolic.proofs.automata.+shape_at.Given as goal

abbrev pub decreases-shape_at : goal.decreases-shape_at
decreases-shape_at l = l.depth
