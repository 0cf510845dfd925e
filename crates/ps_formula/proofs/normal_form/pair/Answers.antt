use Rattle.ps_formula.proofs.FormLemmas.{pair_made, pair_trees}
use Rattle.ps_formula.proofs.normal_form.pair.Goals as goal

pub returns-clause-made : goal.returns-clause-made
returns-clause-made c = pair_made _ c.in_ok-formula.ensures.ok c.in_ok-negation.ensures.ok

pub returns-clause-trees : goal.returns-clause-trees
returns-clause-trees c = pair_trees _ c.in_ok-negation.ensures.table c.requires.formula c.requires.negation
    c.in_ok-formula.ensures.ok c.in_ok-negation.ensures.ok
