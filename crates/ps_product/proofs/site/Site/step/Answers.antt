use Rattle.std.proofs.Common.{◌∙◌, ◌&&◌, ap, ap₂, arith, refl, sym}
use Rattle.ps_product.specs.Inner.Nets.{IsGateAt}
use Rattle.ps_product.specs.Truths.{truth_at}
use Rattle.ps_product.specs.declared.truth.Truth.{Truth}
use Rattle.ps_product.specs.declared.truth.Truth.TheVariants.{Never}
use Rattle.ps_product.proofs.CircuitFunctions.Gates.{gate_truth, never_beside}
use Rattle.ps_diagram.proofs.NodeTables.Cells.{keeps_refl}
use Rattle.ps_product.proofs.CircuitFunctions.TruthLemmas.{known_kept, known_more, learnt}
use Rattle.ps_product.proofs.site.Site.step.Goals as goal

pub returns-in_err-truth-clause-learns : goal.returns-in_err-truth-clause-learns
returns-in_err-truth-clause-learns c = learnt c.given.ensures.keeps
    (known_kept c.args.self c.args.known.now c.given.ensures.keeps c.requires.ready.knows)

pub returns-in_default-clause-learns : goal.returns-in_default-clause-learns
returns-in_default-clause-learns c =
    learnt c.given.ensures.keeps (known_more c.args.self c.args.known.now c.args.place c.in_ok-truth.truth
    (known_kept c.args.self c.args.known.now c.given.ensures.keeps c.requires.ready.knows)
    (omega (arith, c.requires.ready.knows.size, c.requires.within)) c.in_ok-truth.ensures.truth c.put.ensures)

pub get-requires : goal.get-requires
get-requires c =
    let at = c.in-Some.ensures in
    omega (arith, c.requires.ready.knows.size, at.first_below.within)

pub returns-in_default-get-clause-step : goal.returns-in_default-get-clause-step
returns-in_default-get-clause-step c =
    let at = c.in-Some.ensures in
    (refl, at.first_below, sym c.get.ensures ∙ c.in_default-get.is)

pub get-requires-2 : goal.get-requires-2
get-requires-2 c =
    let at = c.in-Some.ensures in
    omega (arith, c.requires.ready.knows.size, at.second_below.within)

pub returns-in_default-get-2-clause-step : goal.returns-in_default-get-2-clause-step
returns-in_default-get-2-clause-step c =
    let at = c.in-Some.ensures in
    (refl, at.second_below, sym c.get-2.ensures ∙ c.in_default-get-2.is)

pub returns-in-Never-clause-learns : goal.returns-in-Never-clause-learns
returns-in-Never-clause-learns c =
    let s = c.args.self in
    let t = c.args.truths.now in
    let sides = c.in-Some.sides in
    let one = c.in-Some-get.one in
    let at : IsGateAt s.net.now c.args.place sides = c.in-Some.ensures in
    let first = c.requires.ready.knows.each sides.first.place one (sym c.in-Some-get.ensures) in
    learnt (keeps_refl t) (known_more s c.args.known.now c.args.place Never c.requires.ready.knows
    (omega (arith, c.requires.ready.knows.size, c.requires.within)) (never_beside s c.args.place sides one at first
    (λ letter. sym (c.along-one.ensures.truth t letter) ∙ ap (λ (m : Truth). truth_at t m letter) c.in-Never.is))
    c.put-in-Never.ensures)

pub both-requires : goal.both-requires
both-requires c =
    let t = c.args.truths.now in
    let knows = c.requires.ready.knows in
    record {
      first = c.along-one.ensures.is_truth t
          (knows.each c.in-Some.sides.first.place c.in-Some-get.one (sym c.in-Some-get.ensures)).is_truth;
      second = c.along.ensures.is_truth t
          (knows.each c.in-Some.sides.second.place c.in-Some-get-2.other (sym c.in-Some-get-2.ensures)).is_truth;
    }

pub returns-in_err-truth-2-clause-learns : goal.returns-in_err-truth-2-clause-learns
returns-in_err-truth-2-clause-learns c = learnt c.both.ensures.keeps
    (known_kept c.args.self c.args.known.now c.both.ensures.keeps c.requires.ready.knows)

pub returns-clause-learns : goal.returns-clause-learns
returns-clause-learns c =
    let s = c.args.self in
    let t = c.args.truths.now in
    let known = c.args.known.now in
    let knows = c.requires.ready.knows in
    let sides = c.in-Some.sides in
    let one = c.in-Some-get.one in
    let other = c.in-Some-get-2.other in
    let made = c.in_ok-truth-2.truth in
    let k = c.both.ensures.keeps in
    let at : IsGateAt s.net.now c.args.place sides = c.in-Some.ensures in
    learnt k (known_more s known c.args.place made (known_kept s known k knows)
    (omega (arith, knows.size, c.requires.within)) (gate_truth s c.args.place sides one other made k at
    (knows.each sides.first.place one (sym c.in-Some-get.ensures))
    (knows.each sides.second.place other (sym c.in-Some-get-2.ensures))
    c.in_ok-truth-2.ensures.is_truth (λ letter lt. c.in_ok-truth-2.ensures.truth letter lt
    ∙ ap₂ ◌&&◌ (c.along-one.ensures.truth t letter) (c.along.ensures.truth t letter))) c.put-2.ensures)
