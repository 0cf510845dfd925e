use Rattle.std.proofs.Common.{◌≡◌, length}
use Rattle.ps_formula.specs.Formulas.{formulas_of}
use Rattle.ps_formula.specs.Inner.Truths.{HasTruths}
use Rattle.ps_formula.proofs.evaluation.truths.Given as goal

abbrev pub invariant-loop-row : goal.invariant-loop-row
invariant-loop-row l = record {
  count : l.rows.count ≡ length l.nodes;
  truths : HasTruths l.stem l.lap l.row (formulas_of l.nodes) l.rows;
}
