use Rattle.ps_parts.proofs.diagrams.Diagrams.+within_at.Given as goal

abbrev pub decreases-within_at : goal.decreases-within_at
decreases-within_at l = l.depth
