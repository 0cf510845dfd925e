use Rattle.ps_diagram.proofs.store.Store.+hidden_by.Given as goal

abbrev pub decreases-hidden_by : goal.decreases-hidden_by
decreases-hidden_by l = l.node
