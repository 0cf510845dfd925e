use Rattle.std.proofs.Common.{◌≡◌, arith, get_or, rules}
use Rattle.std.proofs.lemmas.Option.{slice_get-get_or, get_or_from_slice_get, slice_get_within}
use Rattle.ps_components.specs.declared.trail.Step.{Step}
use Rattle.ps_components.proofs.Places.{slice_get-push_cases}
use Rattle.ps_components.proofs.Spreads.{trail-one, trail-more, trail-new}
use Rattle.ps_components.proofs.trail.trail_from.Goals as goal

pub loop-at-init : goal.loop-at-init
loop-at-init g c = search (rules, get_or_from_slice_get, trail-one, slice_get-push_cases, slice_get-get_or)

pub loop-at-preserved : goal.loop-at-preserved
loop-at-preserved g c =
    let steps = c.args.steps.now in
    let i = c.loop-at.invariant in
    let d : Step = record { item = 0; from = 0 } in
    let here = slice_get-get_or steps c.loop-at.at d i.within in
    let back = c.requires.back c.loop-at.at (get_or steps c.loop-at.at d) (omega arith) here in
    record {
      within = slice_get_within steps _ back.0 back.2;
      trail = λ e s he hs. (let same : back.0 ≡ s = cc (back.2) in
          rw (c.in_ok-push-2.ensures.items, get_or_from_slice_get steps _ s d hs) (trail-more (i.trail e _ he here)
          (rw same at back.3) (trail-new steps c.loop-at.items.items c.requires.apart i.placed back.1 hs)));
      placed = search (rules, slice_get-push_cases, slice_get-get_or, slice_get_within);
    }

pub returns : goal.returns
returns g c = λ e s he hs. c.loop-at.invariant.trail e s he (let z : c.loop-at.at ≡ 0 = omega arith in rw z hs)
