use Rattle.ps_parts.proofs.progression.Progression.+formula_at.Given as goal

abbrev pub decreases-formula_at : goal.decreases-formula_at
decreases-formula_at l = l.depth
