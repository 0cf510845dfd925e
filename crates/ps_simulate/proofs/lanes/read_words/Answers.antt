use Rattle.std.proofs.Common.{◌∙◌, arith}
use Rattle.std.proofs.lemmas.List.{get_or_default}
use Rattle.ps_simulate.proofs.EvaluationPlans.LaneLemmas.{read_on}
use Rattle.ps_simulate.proofs.lanes.read_words.Goals as goal

pub loop-place-preserved : goal.loop-place-preserved
loop-place-preserved c lane lt =
    let is =
    c.index-literals-place.is ∙ get_or_default c.args.literals.now c.loop-place.place _ 0 c.loop-place-test.true in
    read_on c.args.literals.now c.args.values.now c.loop-place.words c.bits.result c.loop-place.place lane
    c.loop-place-test.true (omega (arith, c.requires.fit, c.loop-place.auto.words))
    (rw is at (c.bits.ensures lane lt)) (c.loop-place.invariant lane lt)
