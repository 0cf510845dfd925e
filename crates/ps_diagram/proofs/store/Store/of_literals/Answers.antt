use Rattle.std.proofs.Common.{ap, ◌∙◌}
use Rattle.ps_diagram.specs.Labels.{leaf_where}
use Rattle.ps_diagram.proofs.store.Store.of_literals.Goals as goal

pub returns-clause-leaf : goal.returns-clause-leaf
returns-clause-leaf c = λ known letter. c.in_ok-node.ensures.leaf letter
    ∙ ap (leaf_where c.args.value) (c.in-Some.ensures.value known letter)
