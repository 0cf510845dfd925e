use Rattle.ps_parts.proofs.diagrams.Diagrams.+paired_at.Given as goal

abbrev pub decreases-paired_at : goal.decreases-paired_at
decreases-paired_at l = l.depth
