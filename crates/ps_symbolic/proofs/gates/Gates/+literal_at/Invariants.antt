use Rattle.ps_symbolic.proofs.gates.Gates.+literal_at.Given as goal

abbrev pub decreases-literal_at : goal.decreases-literal_at
decreases-literal_at l = l.depth
