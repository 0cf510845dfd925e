use Rattle.ps_diagram.proofs.store.Store.of_product.Goals as goal

pub path-requires-clause-hit_constant : goal.path-requires-clause-hit_constant
path-requires-clause-hit_constant c = (_, c.in_ok-leaf.ensures.leaf)
