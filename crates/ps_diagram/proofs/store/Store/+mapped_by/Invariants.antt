use Rattle.ps_diagram.proofs.store.Store.+mapped_by.Given as goal

abbrev pub decreases-mapped_by : goal.decreases-mapped_by
decreases-mapped_by g l = l.node
