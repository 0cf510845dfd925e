use Rattle.std.proofs.Common.{◌≡◌, get_or, ◌<◌, inl, inr, refl, arith, Some, length, slice_get, rules}
use Rattle.std.proofs.lemmas.Option.{slice_get_read, slice_get_within, slice_get-get_or}
use Rattle.std.proofs.lemmas.Bool.{cases_lt}
use Rattle.ps_components.specs.declared.trail.Step.{Step}
use Rattle.ps_components.proofs.Spreads.{way-seen}
use Rattle.ps_components.proofs.trail.way_back.Goals as goal

pub returns-then-index-end-clause-found : goal.returns-then-index-end-clause-found
returns-then-index-end-clause-found g c =
    let here = slice_get_read c.loop-place.spread.steps.items _ c.loop-place.place c.index.result.now refl (omega arith)
    c.index.ensures in
    rw c.if-index-end.true at (c.in_ok-trail.ensures c.index.result.now (record { item = c.args.start; from = 0 })
    (rw c.deref.ensures.value here) (rw c.deref.ensures.value c.loop-place.invariant.first))

pub loop-place-preserved : goal.loop-place-preserved
loop-place-preserved g c =
    let steps = c.loop-place.spread.steps.items in
    let i = c.loop-place.invariant in
    let reached = c.in_ok-reach_from.ensures in
    let d : Step = record { item = 0; from = 0 } in
    let here = slice_get_read steps _ c.loop-place.place c.index.result.now refl (omega arith) c.index.ensures in
    record {
      spread = reached.spread;
      first = reached.kept 0 _ i.first;
      passed = λ k s lt h e. (let within : k < length steps = omega arith in
          let now = reached.kept k (get_or steps k d) (slice_get-get_or steps k d within) in
          let was : slice_get steps k ≡ Some s = cc (slice_get-get_or steps k d within) in
          elim (cases_lt k c.loop-place.place) [
            | inl less ↦ i.passed k s less was e
            | inr le ↦ search rules
          ]);
    }

pub returns-clause-none : goal.returns-clause-none
returns-clause-none g c = λ way. (let i = c.loop-place.invariant in
    let b = i.spread.reached c.args.end (way-seen i.spread (omega arith) (i.spread.seen_steps 0 _ i.first) way) in
    i.passed b.0 b.1 (omega (arith, slice_get_within c.loop-place.spread.steps.items b.0 b.1 b.2)) b.2 b.3)
