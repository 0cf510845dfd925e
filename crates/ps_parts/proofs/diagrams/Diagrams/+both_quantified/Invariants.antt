use Rattle.ps_parts.proofs.diagrams.Diagrams.+both_quantified.Given as goal

abbrev pub decreases-both_quantified : goal.decreases-both_quantified
decreases-both_quantified l = l.depth
