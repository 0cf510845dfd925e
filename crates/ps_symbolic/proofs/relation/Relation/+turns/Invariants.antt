use Rattle.ps_symbolic.proofs.relation.Relation.+turns.Given as goal

abbrev pub decreases-turns : goal.decreases-turns
decreases-turns l = l.depth
