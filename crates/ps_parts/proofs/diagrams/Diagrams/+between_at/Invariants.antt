use Rattle.ps_parts.proofs.diagrams.Diagrams.+between_at.Given as goal

abbrev pub decreases-between_at : goal.decreases-between_at
decreases-between_at l = l.depth
