use Rattle.ps_parts.proofs.progression.Progression.+settled_at.Given as goal

abbrev pub decreases-settled_at : goal.decreases-settled_at
decreases-settled_at l = l.depth
