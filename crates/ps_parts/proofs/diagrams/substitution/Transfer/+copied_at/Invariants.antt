use Rattle.ps_parts.proofs.diagrams.substitution.Transfer.+copied_at.Given as goal

abbrev pub decreases-copied_at : goal.decreases-copied_at
decreases-copied_at l = l.depth
