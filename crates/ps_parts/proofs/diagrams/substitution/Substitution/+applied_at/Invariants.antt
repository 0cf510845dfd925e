use Rattle.ps_parts.proofs.diagrams.substitution.Substitution.+applied_at.Given as goal

abbrev pub decreases-applied_at : goal.decreases-applied_at
decreases-applied_at l = l.depth
