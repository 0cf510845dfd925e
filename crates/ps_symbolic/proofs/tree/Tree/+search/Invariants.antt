use Rattle.ps_symbolic.proofs.tree.Tree.+search.Given as goal

abbrev pub decreases-search : goal.decreases-search
decreases-search l = l.depth
