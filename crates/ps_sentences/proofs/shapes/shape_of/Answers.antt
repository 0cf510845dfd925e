use Rattle.std.proofs.Common.{◌∙◌, ◌<◌, ap, arith, length}
use Rattle.ps_formula.specs.Formulas.{constant}
use Rattle.ps_sentences.proofs.ShapeLemmas.{is_both, is_true, is_within, shape_by}
use Rattle.ps_sentences.proofs.GrownLemmas.{at_node}
use Rattle.ps_sentences.specs.declared.layers.Layer.TheVariants.{Next, Globally, Given, Unless}
use Rattle.ps_sentences.proofs.shapes.shape_of.Goals as goal

pub shape_of_iff-requires-clause-f : goal.shape_of_iff-requires-clause-f
shape_of_iff-requires-clause-f c =
    let here = at_node c.as_slice.ensures.value c.as_slice.ensures.table c.args.index c.requires _ _ c.in-Iff.is in
    let low = here.1.0 in
    omega arith

pub shape_of_iff-requires-clause-g : goal.shape_of_iff-requires-clause-g
shape_of_iff-requires-clause-g c =
    let here = at_node c.as_slice.ensures.value c.as_slice.ensures.table c.args.index c.requires _ _ c.in-Iff.is in
    let low = here.1.1 in
    omega arith

pub shape_of_negation-requires : goal.shape_of_negation-requires
shape_of_negation-requires c =
    let here = at_node c.as_slice.ensures.value c.as_slice.ensures.table c.args.index c.requires _ _ c.in-Not.is in
    let low : c.in-Not.f < c.args.index = here.1 in
    omega arith

pub returns-in-Constant-true : goal.returns-in-Constant-true
returns-in-Constant-true c =
    let here = at_node c.as_slice.ensures.value c.as_slice.ensures.table c.args.index c.requires _ _
    c.in-Constant-true.is in
    is_true c.args.index (here.0 ∙ ap constant c.in-Constant-true.field-0-test)

pub returns-in-And : goal.returns-in-And
returns-in-And c =
    let here = at_node c.as_slice.ensures.value c.as_slice.ensures.table c.args.index c.requires _ _ c.in-And.is in
    is_both c.requires here.1.0 here.1.1 here.0

pub returns-in-Implies : goal.returns-in-Implies
returns-in-Implies c =
    let here = at_node c.as_slice.ensures.value c.as_slice.ensures.table c.args.index c.requires _ _ c.in-Implies.is in
    let low = here.1.0 in
    let there : c.in-Implies.f < length c.args.table.now = omega arith in
    is_within (Given c.in-Implies.f) c.requires here.1.1 there here.0

pub returns-in-Iff : goal.returns-in-Iff
returns-in-Iff c =
    let here = at_node c.as_slice.ensures.value c.as_slice.ensures.table c.args.index c.requires _ _ c.in-Iff.is in
    shape_by _ _ c.shape_of_iff.result here.0 c.shape_of_iff.ensures

pub returns-in-Next : goal.returns-in-Next
returns-in-Next c =
    let here = at_node c.as_slice.ensures.value c.as_slice.ensures.table c.args.index c.requires _ _ c.in-Next.is in
    is_within Next c.requires here.1 tt here.0

pub returns-in-Globally : goal.returns-in-Globally
returns-in-Globally c =
    let here = at_node c.as_slice.ensures.value c.as_slice.ensures.table c.args.index c.requires _ _ c.in-Globally.is in
    is_within Globally c.requires here.1 tt here.0

pub returns-in-WeakUntil : goal.returns-in-WeakUntil
returns-in-WeakUntil c =
    let here =
    at_node c.as_slice.ensures.value c.as_slice.ensures.table c.args.index c.requires _ _ c.in-WeakUntil.is in
    let low = here.1.1 in
    let there : c.in-WeakUntil.g < length c.args.table.now = omega arith in
    is_within (Unless c.in-WeakUntil.g) c.requires here.1.0 there here.0

pub returns-in-Not : goal.returns-in-Not
returns-in-Not c =
    let here = at_node c.as_slice.ensures.value c.as_slice.ensures.table c.args.index c.requires _ _ c.in-Not.is in
    shape_by _ _ c.shape_of_negation.result here.0 c.shape_of_negation.ensures
