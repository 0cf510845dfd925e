use Rattle.ps_diagram.specs.Tree.{leaf_at}
use Rattle.ps_diagram.specs.Table.{tree_of}
use Rattle.ps_diagram.proofs.TreeOperations.Uniting.{leaf_wins}
use Rattle.ps_diagram.proofs.store.Store.united_at_once.Goals as goal

pub returns-in-Leaf-cell-clause-union : goal.returns-in-Leaf-cell-clause-union
returns-in-Leaf-cell-clause-union c = λ f.
    leaf_wins f (leaf_at (tree_of c.args.self.now c.args.first) f) c.in-Leaf-cell.ensures.part
    (c.requires.first_truth f)
    (c.requires.second_truth f)
