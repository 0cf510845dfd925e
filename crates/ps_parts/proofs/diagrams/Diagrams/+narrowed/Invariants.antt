use Rattle.ps_parts.proofs.diagrams.Diagrams.+narrowed.Given as goal

abbrev pub decreases-narrowed : goal.decreases-narrowed
decreases-narrowed l = l.depth
