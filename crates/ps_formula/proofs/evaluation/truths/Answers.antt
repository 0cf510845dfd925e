use Rattle.std.proofs.Common.{◌∙◌}
use Rattle.std.proofs.lemmas.Option.{slice_get-get_or}
use Rattle.ps_formula.specs.Formulas.{formulas_of}
use Rattle.ps_formula.proofs.Trees.{formula_at-node}
use Rattle.ps_formula.proofs.evaluation.truths.Goals as goal

pub loop-row-preserved : goal.loop-row-preserved
loop-row-preserved c =
    let nodes = c.args.nodes.now in
    record {
      count = c.fill_row.ensures.count ∙ c.loop-row.invariant.count;
      truths = c.fill_row.ensures.truths (formulas_of nodes) c.loop-row.invariant.truths
          (formula_at-node nodes c.loop-row.row _ c.requires.table.earlier
          (slice_get-get_or nodes c.loop-row.row _ c.loop-row-test.true));
    }
