use Rattle.std.proofs.Common.{◌≡◌, ℕ, ◌+◌, ◌-◌, List, arith, refl, subst, sym, ◌∙◌}
use Rattle.ps_label.specs.Words.{lasso_word}
use Rattle.std.specs.Bool.{Decides}
use Rattle.ps_formula.specs.Formulas.{Formula, formula_of}
use Rattle.ps_formula.specs.Satisfaction.{Satisfies}
use Rattle.ps_formula.specs.Inner.Truths.{HasTruths, TellsLater}
use Rattle.ps_formula.proofs.Filling.{lasso_kept, later_told, more_done, row_done, truths_kept}
use Rattle.ps_formula.proofs.Laps.{end_tells}
use Rattle.ps_formula.proofs.evaluation.fill_row.Goals as goal

pub loop-at-init : goal.loop-at-init
loop-at-init c = record {
  count = refl;
  lasso = c.requires.lasso;
  truths = λ known truths. truths;
  next = λ known truths.
      let stem = c.args.stem.now in
      let lap = c.args.lap.now in
      subst (λ (n : ℕ). TellsLater known (lasso_word stem lap) c.args.node n c.truth_at_lap-next.result)
      (sym c.requires.lasso.width_is)
      (end_tells known stem lap c.args.node c.truth_at_lap-next.result
      (c.truth_at_lap-next.ensures known c.args.row c.requires.over truths));
  done = λ known truths i low high. absurd (omega arith);
}

pub loop-at-preserved : goal.loop-at-preserved
loop-at-preserved c =
    let stem = c.args.stem.now in
    let lap = c.args.lap.now in
    let w = lasso_word stem lap in
    let at = c.loop-at.at - 1 in
    let same : c.loop-at.at ≡ at + 1 = omega arith in
    let here : (known : List Formula) → HasTruths stem lap c.args.row known c.args.rows.now →
    Decides c.truth_here-next.result (Satisfies (formula_of known c.args.node) w at) = λ known truths.
    c.truth_here-next.ensures.here known c.args.row stem lap c.requires.over (c.loop-at.invariant.truths known truths)
    c.letter_at-letter.ensures
    (subst (λ (n : ℕ). TellsLater known w c.args.node n c.loop-at.next) same (c.loop-at.invariant.next known truths)) in
    record {
      count = c.set.ensures.count ∙ c.loop-at.invariant.count;
      lasso = lasso_kept c.loop-at.invariant.lasso c.set.ensures;
      truths = λ known truths. truths_kept (c.loop-at.invariant.truths known truths) c.set.ensures;
      next = λ known truths. later_told known w c.args.node at c.truth_here-next.result (here known truths);
      done = λ known truths. more_done (Satisfies (formula_of known c.args.node) w) c.set.ensures (here known truths)
          (λ i low within. c.loop-at.invariant.done known truths i (omega arith) within);
    }

pub returns-clause-truths : goal.returns-clause-truths
returns-clause-truths c known truths is = row_done c.args.node (c.loop-at.invariant.truths known truths) is
    (λ i within. c.loop-at.invariant.done known truths i (omega arith) within)
