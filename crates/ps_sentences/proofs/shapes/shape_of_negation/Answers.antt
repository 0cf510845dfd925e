use Rattle.std.proofs.Common.{◌≡◌, ◌∙◌, ◌<◌, ap, arith, false, length}
use Rattle.ps_formula.specs.Formulas.{constant, formula_at, not_of}
use Rattle.ps_sentences.proofs.LayerLemmas.{equivalent_is, equivalent_trans}
use Rattle.ps_sentences.proofs.ShapeLemmas.{never_is, not_false_is, not_next_is, shape_by, within_added}
use Rattle.ps_sentences.proofs.GrownLemmas.{added_grows, at_node, formula_kept, grown_refl}
use Rattle.ps_sentences.specs.declared.layers.Layer.TheVariants as layers
use Rattle.ps_sentences.proofs.shapes.shape_of_negation.Goals as goal

pub shape_of_neither-requires-clause-f : goal.shape_of_neither-requires-clause-f
shape_of_neither-requires-clause-f c =
    let here = at_node c.as_slice.ensures.value c.as_slice.ensures.table c.args.index c.requires _ _ c.in-Or.is in
    let low = here.1.0 in
    omega arith

pub shape_of_neither-requires-clause-g : goal.shape_of_neither-requires-clause-g
shape_of_neither-requires-clause-g c =
    let here = at_node c.as_slice.ensures.value c.as_slice.ensures.table c.args.index c.requires _ _ c.in-Or.is in
    let low = here.1.1 in
    omega arith

pub add-requires : goal.add-requires
add-requires c =
    let here = at_node c.as_slice.ensures.value c.as_slice.ensures.table c.args.index c.requires _ _ c.in-Finally.is in
    let low : c.in-Finally.f < c.args.index = here.1 in
    omega arith

pub add-requires-in-Next : goal.add-requires-in-Next
add-requires-in-Next c =
    let here = at_node c.as_slice.ensures.value c.as_slice.ensures.table c.args.index c.requires _ _ c.in-Next.is in
    let low : c.in-Next.f < c.args.index = here.1 in
    omega arith

pub returns-in-Constant-false : goal.returns-in-Constant-false
returns-in-Constant-false c =
    let t = c.args.table.now in
    let here = at_node c.as_slice.ensures.value c.as_slice.ensures.table c.args.index c.requires _ _
    c.in-Constant-false.is in
    let is : not_of (formula_at t c.args.index) ≡ not_of (constant false) =
    ap not_of (here.0 ∙ ap constant c.in-Constant-false.field-0-test) in
    record {
      grows = grown_refl t;
      has = equivalent_trans (equivalent_is is) not_false_is;
    }

pub returns-in-Or : goal.returns-in-Or
returns-in-Or c =
    let here = at_node c.as_slice.ensures.value c.as_slice.ensures.table c.args.index c.requires _ _ c.in-Or.is in
    shape_by _ _ c.shape_of_neither.result (ap not_of here.0) c.shape_of_neither.ensures

pub returns-in_ok-never-in-Finally : goal.returns-in_ok-never-in-Finally
returns-in_ok-never-in-Finally c =
    let t = c.args.table.now in
    let f = c.in-Finally.f in
    let here = at_node c.as_slice.ensures.value c.as_slice.ensures.table c.args.index c.requires _ _ c.in-Finally.is in
    let low : f < c.args.index = here.1 in
    let there : f < length t = omega arith in
    let added = c.in_ok-never-in-Finally.ensures.ok in
    within_added added c.in_ok-never-in-Finally.ensures.table layers.Globally tt _ (not_of (formula_at t f))
    (ap not_of (formula_kept (added_grows added) f there))
    (equivalent_trans (equivalent_is (ap not_of here.0)) (never_is (formula_at t f)))

pub returns-in_ok-not_then-in-Next : goal.returns-in_ok-not_then-in-Next
returns-in_ok-not_then-in-Next c =
    let t = c.args.table.now in
    let f = c.in-Next.f in
    let here = at_node c.as_slice.ensures.value c.as_slice.ensures.table c.args.index c.requires _ _ c.in-Next.is in
    let low : f < c.args.index = here.1 in
    let there : f < length t = omega arith in
    let added = c.in_ok-not_then-in-Next.ensures.ok in
    within_added added c.in_ok-not_then-in-Next.ensures.table layers.Next tt _ (not_of (formula_at t f))
    (ap not_of (formula_kept (added_grows added) f there))
    (equivalent_trans (equivalent_is (ap not_of here.0)) (not_next_is (formula_at t f)))
