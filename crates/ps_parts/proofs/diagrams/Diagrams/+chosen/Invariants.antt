use Rattle.ps_parts.proofs.diagrams.Diagrams.+chosen.Given as goal

abbrev pub decreases-chosen : goal.decreases-chosen
decreases-chosen l = l.depth
