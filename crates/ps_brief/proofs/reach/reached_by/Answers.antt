use Rattle.std.proofs.Common.{◌≤◌, arith, length, sym}
use Rattle.ps_diagram.proofs.NodeTables.Cells.{keeps_refl}
use Rattle.ps_diagram.proofs.NodeTables.KnownLemmas.{keeps_trans}
use Rattle.ps_brief.proofs.DraftedMoves.DraftsMade.{ready_kept}
use Rattle.ps_brief.proofs.DrawnMachines.Reaches.{found_all}
use Rattle.ps_brief.proofs.DrawnMachines.VisitedKeys.{all_seen, begun, few_found, found_below, found_there}
use Rattle.ps_brief.proofs.reach.reached_by.Goals as goal
use Rattle.ps_brief.proofs.reach.reached_by.Goals.{else-loop-turn-test, then-loop-turn-test+in_default}

pub loop-turn-init : goal.loop-turn-init
loop-turn-init c = record {
  keeps = keeps_refl c.args.store.now;
  up = begun c.args.plan.now c.in_ok-reached.reached c.requires.playable.begins c.in_ok-reached.ensures.places
      c.in_ok-reached.ensures.drafts;
}

pub visit-requires-clause-ready : goal.visit-requires-clause-ready
visit-requires-clause-ready c = ready_kept c.args.plan.now c.loop-turn.invariant.keeps c.requires

pub visit-requires-clause-found : goal.visit-requires-clause-found
visit-requires-clause-found c = found_there c.args.plan.now c.loop-turn.reached.places.keys c.loop-turn.turn
    c.in-Some.field-0.now c.loop-turn.invariant.up.each (sym c.in-Some.ensures.key)

pub visit-requires-clause-below : goal.visit-requires-clause-below
visit-requires-clause-below c =
    found_below c.args.plan.now c.in-Some.field-0.now (found_there c.args.plan.now c.loop-turn.reached.places.keys
    c.loop-turn.turn c.in-Some.field-0.now c.loop-turn.invariant.up.each (sym c.in-Some.ensures.key))

pub loop-turn-preserved : goal.loop-turn-preserved
loop-turn-preserved c = record {
  keeps = keeps_trans c.loop-turn.invariant.keeps c.visit.ensures.keeps;
  up = c.in_ok-visit.ensures.visits c.loop-turn.turn (sym c.in-Some.ensures.key) c.loop-turn.invariant.up;
}

pub returns-clause-reached : goal.returns-clause-reached
returns-clause-reached c =
    let plan = c.args.plan.now in
    let places = c.loop-turn.reached.places.keys in
    let few = few_found plan places c.loop-turn.invariant.up.each c.places_differ.ensures in
    let done : length places ≤ c.loop-turn.turn = elim c.loop-turn-test.branch [
      | else-loop-turn-test w ↦ omega (arith, few, w.loop-turn-test.false, c.count-turn-end.ensures)
      | then-loop-turn-test+in_default w ↦ all_seen places c.loop-turn.turn w.in_default.ensures.key
    ] in
    found_all plan plan.arena.now c.requires.playable c.loop-turn.reached c.loop-turn.turn c.loop-turn.invariant.up done
