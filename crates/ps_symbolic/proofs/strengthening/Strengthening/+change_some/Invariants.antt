use Rattle.ps_symbolic.proofs.strengthening.Strengthening.+change_some.Given as goal

abbrev pub decreases-change_some : goal.decreases-change_some
decreases-change_some l = l.depth
