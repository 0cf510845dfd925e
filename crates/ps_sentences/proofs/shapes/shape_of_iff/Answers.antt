use Rattle.ps_formula.specs.Formulas.{formula_at, iff, implies}
use Rattle.ps_sentences.proofs.ShapeLemmas.{both_added, iff_is}
use Rattle.ps_sentences.proofs.GrownLemmas.{added_grows, formula_kept, grown_trans}
use Rattle.ps_sentences.proofs.shapes.shape_of_iff.Goals as goal

pub returns : goal.returns
returns c =
    let f = formula_at c.args.table.now c.args.f in
    let g = formula_at c.args.table.now c.args.g in
    let one = added_grows c.in_ok-right.ensures.ok in
    let two = grown_trans one (added_grows c.in_ok-left.ensures.ok) in
    both_added c.in_ok-right.ensures.ok c.in_ok-right.ensures.table c.in_ok-left.ensures.ok
    c.in_ok-left.ensures.table (iff f g) (implies f g) (implies g f)
    (λ i. implies (formula_kept one c.args.f c.requires.f i) (formula_kept one c.args.g c.requires.g i))
    (λ i. implies (formula_kept two c.args.g c.requires.g i) (formula_kept two c.args.f c.requires.f i))
    (iff_is f g)
