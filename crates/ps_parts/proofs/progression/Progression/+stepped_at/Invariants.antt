use Rattle.ps_parts.proofs.progression.Progression.+stepped_at.Given as goal

abbrev pub decreases-stepped_at : goal.decreases-stepped_at
decreases-stepped_at l = l.depth
