use Rattle.std.proofs.Common.{◌-◌, ◌<◌, ap, arith, get_or, length, sym, ◌∙◌}
use Rattle.std.proofs.Math.Nat.{mod-eq_of_lt}
use Rattle.ps_formula.proofs.LassoTruths.{behind}
use Rattle.ps_formula.proofs.evaluation.letter_at.Goals as goal

pub returns-else-at-stem : goal.returns-else-at-stem
returns-else-at-stem c =
    let stem = c.args.stem.now in
    let lap = c.args.lap.now in
    let place = c.args.at - length stem in
    let within : place < length lap = omega arith in
    ap (λ k. get_or lap k 0) (sym (mod-eq_of_lt within)) ∙ sym (behind stem lap c.args.at c.if-at-stem.false)
