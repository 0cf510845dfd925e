use Rattle.ps_tableau.proofs.sketches.+literals_of.Given as goal

abbrev pub decreases-literals_of : goal.decreases-literals_of
decreases-literals_of l = l.node
