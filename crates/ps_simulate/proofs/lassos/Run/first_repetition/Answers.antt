use Rattle.std.proofs.Common.{◌≡◌, None, arith}
use Rattle.std.proofs.lemmas.List.{length-map}
use Rattle.ps_simulate.specs.LassoRuns.{IsSeen}
use Rattle.ps_simulate.proofs.LapsOfRuns.LassoLemmas.{HasRead-next, HasRead-start, fewer, goes_wide, repeats}
use Rattle.ps_simulate.proofs.LapsOfRuns.SeenLemmas.{places_start}
use Rattle.ps_simulate.proofs.lassos.Run.first_repetition.Goals as goal

pub laps-init : goal.laps-init
laps-init c = grind (arith, places_start, HasRead-start, goes_wide, length-map)

pub laps-smaller : goal.laps-smaller
laps-smaller c =
    let before = c.laps.invariant.read in
    let after = c.in_ok-first.ensures before.0 before.1 in
    let none : c.in_ok-first.field-0 ≡ None = c.in_default.is in
    let seen : IsSeen before.0 after.0 c.latches.result.now None = rw none at after.1 in
    let read = HasRead-next after.0 c.laps.invariant.same c.latches.ensures before.2 seen
    c.in_ok-read_word-2.ensures.reads c.laps.invariant.wide in
    omega (arith, fewer before.0 c.latches.result.now read seen, before.1.each, after.2.each)

pub laps-preserved : goal.laps-preserved
laps-preserved c = grind (arith, HasRead-next, goes_wide)

pub returns-in-Some : goal.returns-in-Some
returns-in-Some c = grind (arith, length-map, repeats)
