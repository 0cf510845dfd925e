use Rattle.ps_diagram.proofs.store.Store.+divided.Given as goal

abbrev pub decreases-divided : goal.decreases-divided
decreases-divided l = l.node
