use Rattle.ps_formula.proofs.Trees.{formula_at-append, formula_at-node}
use Rattle.ps_formula.proofs.laws.each_node_is_a_formula.Goals as goal

pub returns-clause-operator : goal.returns-clause-operator
returns-clause-operator c nodes k node table at = formula_at-node nodes k node table.earlier at

pub returns-clause-stays : goal.returns-clause-stays
returns-clause-stays c nodes more k within = formula_at-append nodes more k within
