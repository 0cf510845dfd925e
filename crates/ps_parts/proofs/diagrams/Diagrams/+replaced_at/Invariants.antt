use Rattle.ps_parts.proofs.diagrams.Diagrams.+replaced_at.Given as goal

abbrev pub decreases-replaced_at : goal.decreases-replaced_at
decreases-replaced_at l = l.depth
