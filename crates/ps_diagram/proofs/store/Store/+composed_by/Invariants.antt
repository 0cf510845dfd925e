use Rattle.ps_diagram.proofs.store.Store.+composed_by.Given as goal

abbrev pub decreases-composed_by : goal.decreases-composed_by
decreases-composed_by l = l.node
