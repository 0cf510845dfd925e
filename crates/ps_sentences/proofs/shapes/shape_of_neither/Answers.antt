use Rattle.std.proofs.Common.{ap}
use Rattle.ps_formula.specs.Formulas.{formula_at, not_of, or_of}
use Rattle.ps_sentences.proofs.ShapeLemmas.{both_added, neither_is}
use Rattle.ps_sentences.proofs.GrownLemmas.{added_grows, formula_kept, grown_trans}
use Rattle.ps_sentences.proofs.shapes.shape_of_neither.Goals as goal

pub returns : goal.returns
returns c =
    let f = formula_at c.args.table.now c.args.f in
    let g = formula_at c.args.table.now c.args.g in
    let one = added_grows c.in_ok-not_first.ensures.ok in
    let two = grown_trans one (added_grows c.in_ok-not_second.ensures.ok) in
    both_added c.in_ok-not_first.ensures.ok c.in_ok-not_first.ensures.table c.in_ok-not_second.ensures.ok
    c.in_ok-not_second.ensures.table (not_of (or_of f g)) (not_of f) (not_of g)
    (ap not_of (formula_kept one c.args.f c.requires.f)) (ap not_of (formula_kept two c.args.g c.requires.g))
    (neither_is f g)
