use Rattle.std.proofs.Common.{◌∙◌, false, ap, Some}
use Rattle.std.proofs.lemmas.Option.{slice_get-get_or}
use Rattle.ps_formula.specs.declared.normal_node.NormalNode.TheVariants.{Constant}
use Rattle.ps_formula.proofs.NormalTrees.{normal_formula_at-node}
use Rattle.ps_formula.proofs.normal_formulas.NormalFormulas.constant.Goals as goal

pub returns-in-Constant : goal.returns-in-Constant
returns-in-Constant c =
    let nodes = c.args.self.now in
    normal_formula_at-node nodes c.args.index (Constant c.in-Constant.value) c.as_slice.ensures.table.earlier
    (slice_get-get_or nodes c.args.index (Constant false) c.requires
    ∙ ap Some (rw c.as_slice.ensures.value at c.in-Constant.is))
