use Rattle.ps_parts.proofs.diagrams.Diagrams.+quantified.Given as goal

abbrev pub decreases-quantified : goal.decreases-quantified
decreases-quantified l = l.depth
