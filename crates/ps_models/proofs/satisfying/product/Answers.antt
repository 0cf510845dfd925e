use Rattle.std.proofs.Common.{map, subst, sym}
use Rattle.ps_formula.specs.Formulas.{Formula, formula_at}
use Rattle.ps_hoa.specs.Memory.{bytes_of}
use Rattle.ps_product.proofs.CircuitFunctions.GroupLemmas.{ok_map}
use Rattle.ps_tableau_product.specs.Graphs.{IsModelGraph}
use Rattle.ps_models.proofs.satisfying.product.Goals as goal

pub returns : goal.returns
returns c = ok_map _ _ c.product.result c.product.ensures (λ graph made.
    subst (λ (f : Formula). IsModelGraph (map bytes_of c.args.plan.names.now) c.args.plan.circuit.now f graph)
    (sym (c.opposes-negated.ensures (formula_at c.args.sentence.formulas.now c.args.sentence.root)))
    (made _ c.in_ok-tableau.ensures))
