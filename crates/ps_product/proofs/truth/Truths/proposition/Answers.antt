use Rattle.ps_product.proofs.truth.Truths.proposition.Goals as goal

pub truth_of-requires-clause-leaves : goal.truth_of-requires-clause-leaves
truth_of-requires-clause-leaves c = λ letter. (_, c.in_ok-node.ensures.leaf letter)
