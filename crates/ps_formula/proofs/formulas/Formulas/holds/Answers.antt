use Rattle.std.proofs.Common.{◌≡◌, ◌+◌, ◌<◌, List, arith, length, take, subst, sym, ◌∙◌}
use Rattle.std.proofs.lemmas.List.{length-take}
use Rattle.std.specs.Bool.{Decides}
use Rattle.ps_label.specs.Words.{lasso_word}
use Rattle.ps_formula.specs.declared.node.Node.{Node}
use Rattle.ps_formula.specs.Formulas.{Formula, formula_at}
use Rattle.ps_formula.specs.Satisfaction.{Satisfies}
use Rattle.ps_formula.proofs.Here.{bit_tells}
use Rattle.ps_formula.proofs.Trees.{formula_at-take}
use Rattle.ps_formula.proofs.formulas.Formulas.holds.Goals as goal

pub returns : goal.returns
returns c =
    let stem = c.args.stem.now in
    let lap = c.args.lap.now in
    let root = c.args.root in
    let nodes = c.as_slice.result.now in
    let rows = c.in_ok-rows.rows in
    let truths = c.in_ok-rows.ensures.truths in
    let same : nodes ≡ c.args.self.now = c.as_slice.ensures ∙ c.self.view_is in
    let within : root < length nodes = subst (λ (l : List Node). root < length l) (sym same) c.requires.root in
    let below : root < length (take (root + 1) nodes) = omega (arith, length-take (root + 1) nodes) in
    let is : formula_at (take (root + 1) nodes) root ≡ formula_at c.args.self.now root =
    formula_at-take nodes (root + 1) root (omega arith) within ∙ (λ i. formula_at (same i) root) in
    subst (λ (f : Formula). Decides c.get.result (Satisfies f (lasso_word stem lap) 0)) is
    (bit_tells truths root 0 c.get.result below (omega arith) c.get.ensures)
