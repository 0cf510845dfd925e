use Rattle.ps_diagram.proofs.store.Store.+cofactor.Given as goal

abbrev pub decreases-cofactor : goal.decreases-cofactor
decreases-cofactor l = l.node
