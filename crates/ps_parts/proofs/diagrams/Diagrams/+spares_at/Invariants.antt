use Rattle.ps_parts.proofs.diagrams.Diagrams.+spares_at.Given as goal

abbrev pub decreases-spares_at : goal.decreases-spares_at
decreases-spares_at l = l.depth
