use Rattle.std.proofs.Common.{◌-◌, ◌<◌, arith, sym}
use Rattle.std.proofs.lemmas.Result.{IfOk-weaker}
use Rattle.ps_sentences.proofs.LayerLemmas.{equivalent_refl}
use Rattle.ps_sentences.proofs.SplitLemmas.{around_at, both_inside, further_inside, shape_at, split_through}
use Rattle.ps_sentences.proofs.SplitLemmas.{takes_any, true_inside}
use Rattle.ps_sentences.proofs.GrownLemmas.{grown_refl, grown_trans}
use Rattle.ps_sentences.specs.declared.splitting.Split.{Split}
use Rattle.ps_sentences.proofs.splitting.split_of.Goals as goal

pub loop-steps-init : goal.loop-steps-init
loop-steps-init c = record {
  grows = grown_refl c.args.table.now;
  is = around_at (sym c.new-layers.ensures.items)
      (record { layers_there = tt; there = c.requires; is = equivalent_refl _ });
  fewer = omega arith;
}

pub shape_of-requires-in-loop-steps : goal.shape_of-requires-in-loop-steps
shape_of-requires-in-loop-steps c = c.loop-steps.invariant.is.there

pub returns-in-True-clause-split : goal.returns-in-True-clause-split
returns-in-True-clause-split c =
    let shape = shape_at c.in-True.is c.in_ok-shape_of.ensures in
    let inner = true_inside c.loop-steps.invariant.is shape in
    record { grows = grown_trans c.loop-steps.invariant.grows inner.grows; has = inner.has }

pub returns-in-True-clause-steps : goal.returns-in-True-clause-steps
returns-in-True-clause-steps c = omega (arith, c.loop-steps.invariant.fewer)

pub returns-in-Whole-clause-split : goal.returns-in-Whole-clause-split
returns-in-Whole-clause-split c =
    record { grows = grown_trans c.loop-steps.invariant.grows c.in_ok-shape_of.ensures.grows; has = tt }

pub returns-in-Whole-clause-steps : goal.returns-in-Whole-clause-steps
returns-in-Whole-clause-steps c = omega (arith, c.loop-steps.invariant.fewer)

pub both_within-requires-clause-layers : goal.both_within-requires-clause-layers
both_within-requires-clause-layers c =
    let shape = shape_at c.in-Both.is c.in_ok-shape_of.ensures in
    (both_inside c.loop-steps.invariant.is c.in-Both.f c.in-Both.g shape).layers_there

pub both_within-requires-clause-first : goal.both_within-requires-clause-first
both_within-requires-clause-first c =
    let shape = shape_at c.in-Both.is c.in_ok-shape_of.ensures in
    shape.has.0

pub both_within-requires-clause-second : goal.both_within-requires-clause-second
both_within-requires-clause-second c =
    let shape = shape_at c.in-Both.is c.in_ok-shape_of.ensures in
    shape.has.1

pub returns-in-Both-clause-split : goal.returns-in-Both-clause-split
returns-in-Both-clause-split c =
    let shape = shape_at c.in-Both.is c.in_ok-shape_of.ensures in
    let are = both_inside c.loop-steps.invariant.is c.in-Both.f c.in-Both.g shape in
    IfOk-weaker c.both_within.result _ _
    (λ (split : Split) within. split_through are (grown_trans c.loop-steps.invariant.grows shape.grows) split within)
    c.both_within.ensures

pub returns-in-Both-clause-steps : goal.returns-in-Both-clause-steps
returns-in-Both-clause-steps c =
    let less : c.loop-steps.steps - 1 < c.args.steps.now =
    omega (arith, c.loop-steps.invariant.fewer, c.loop-steps-test.true) in
    IfOk-weaker c.both_within.result _ _ (λ (split : Split) within. takes_any less split) c.both_within.ensures

pub loop-steps-smaller : goal.loop-steps-smaller
loop-steps-smaller c = omega (arith, c.loop-steps-test.true)

pub loop-steps-preserved : goal.loop-steps-preserved
loop-steps-preserved c =
    let shape = shape_at c.in-Within.is c.in_ok-shape_of.ensures in
    record {
      grows = grown_trans c.loop-steps.invariant.grows shape.grows;
      is = around_at (sym c.in_ok-push-in-Within.ensures.items)
          (further_inside c.loop-steps.invariant.is c.in-Within.layer c.in-Within.f shape);
      fewer = omega (arith, c.loop-steps.invariant.fewer);
    }

pub returns-clause-split : goal.returns-clause-split
returns-clause-split c = record { grows = c.loop-steps.invariant.grows; has = tt }

pub returns-clause-steps : goal.returns-clause-steps
returns-clause-steps c = c.loop-steps.invariant.fewer
