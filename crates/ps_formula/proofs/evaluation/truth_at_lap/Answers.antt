use Rattle.std.proofs.Common.{◌≡◌, ℕ, ◌+◌, ◌-◌, ◌<◌, ◌≤◌, arith, length, subst}
use Rattle.ps_label.specs.Words.{lasso_word}
use Rattle.ps_formula.specs.Inner.Truths.{TellsPartly}
use Rattle.ps_formula.proofs.Laps.{lap_tells}
use Rattle.ps_formula.proofs.evaluation.truth_at_lap.Goals as goal

pub loop-at-preserved : goal.loop-at-preserved
loop-at-preserved c = record {
  low = omega arith;
  tells = λ known row over truths.
      let w = lasso_word c.args.stem.now c.args.lap.now in
      let width = c.args.rows.now.width in
      let same : c.loop-at.at ≡ c.loop-at.at - 1 + 1 = omega arith in
      let later = subst (λ (i : ℕ). TellsPartly known w c.args.node width i c.loop-at.next) same
      (c.loop-at.invariant.tells known row over truths) in
      c.truth_here-next.ensures.partly known row c.args.stem.now c.args.lap.now width over truths (omega arith) later;
}

pub returns : goal.returns
returns c known row over truths =
    let stem = c.args.stem.now in
    let lap = c.args.lap.now in
    let w = lasso_word stem lap in
    let width : c.args.rows.now.width ≡ length stem + length lap = c.requires.lasso.width_is in
    let some : 0 < length lap = omega (arith, c.args.rows.now.some, c.requires.lasso.stem_is) in
    let low : length stem ≤ c.loop-at.at = c.loop-at.invariant.low in
    let start : c.loop-at.at ≡ length stem = omega arith in
    lap_tells known stem lap c.args.node c.loop-at.next some
    (subst (λ (n : ℕ). TellsPartly known w c.args.node n (length stem) c.loop-at.next) width
    (subst (λ (i : ℕ). TellsPartly known w c.args.node c.args.rows.now.width i c.loop-at.next) start
    (c.loop-at.invariant.tells known row over truths)))
