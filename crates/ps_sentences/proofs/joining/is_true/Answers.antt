use Rattle.std.proofs.Common.{◌∙◌, ap}
use Rattle.ps_formula.specs.Formulas.{constant}
use Rattle.ps_sentences.proofs.GrownLemmas.{at_node}
use Rattle.ps_sentences.proofs.joining.is_true.Goals as goal

pub returns-in-Constant : goal.returns-in-Constant
returns-in-Constant c holds =
    let here = at_node c.as_slice.ensures.value c.as_slice.ensures.table c.args.index c.requires _ _ c.in-Constant.is in
    here.0 ∙ ap constant holds
