use Rattle.std.proofs.Common.{arith}
use Rattle.ps_machine.specs.Inner.Planning.{IsDrawnBy}
use Rattle.ps_machine.proofs.AutomatonGames.BoardSteps.{class_there, count_is}
use Rattle.ps_machine.proofs.AutomatonGames.GameKeys.Exploring.{both_ok}
use Rattle.ps_machine.proofs.Machines.Diagrams.FirstDrawing.{entered, all_noted, drawn_first, leads_all}
use Rattle.ps_machine.proofs.Machines.Diagrams.ClassRests.{left, renamed, renamed_within}
use Rattle.ps_machine.proofs.drawing.Drawing.first_node.Goals as goal

pub rest_of-rest-requires : goal.rest_of-rest-requires
rest_of-rest-requires c =
    let r = c.requires.ready.1 in
    let plays = c.move_at-chosen.ensures.plays c.requires.ready.0 r.stands.0 r.stands.1 in
    rw c.deref.ensures.value (class_there r.fit r.classes c.move_at-chosen.result.1 plays.is_class)

pub leaves-requires : goal.leaves-requires
leaves-requires c =
    let r = c.requires.ready.1 in
    record { held = (left r.fit r.classes (rw c.deref.ensures.value at c.rest_of-rest.ensures)).is_rest.held }

pub place_rows-requires-clause-entered : goal.place_rows-requires-clause-entered
place_rows-requires-clause-entered c =
    let r = c.requires.ready.1 in
    let at = r.stands.1 in
    let plays = c.move_at-chosen.ensures.plays c.requires.ready.0 r.stands.0 at in
    let l = left r.fit r.classes (rw c.deref.ensures.value at c.rest_of-rest.ensures) in
    let are = rw (← c.deref-2.ensures.value) at c.in_ok-leaves.ensures in
    entered r.plan c.requires.turn r.kept at plays l are

pub place_rows-requires-clause-leads : goal.place_rows-requires-clause-leads
place_rows-requires-clause-leads c =
    let r = c.requires.ready.1 in
    let plays = c.move_at-chosen.ensures.plays c.requires.ready.0 r.stands.0 r.stands.1 in
    let l = left r.fit r.classes (rw c.deref.ensures.value at c.rest_of-rest.ensures) in
    let are = rw (← c.deref-2.ensures.value) at c.in_ok-leaves.ensures in
    leads_all r.plan c.requires.turn c.move_at-chosen.ensures.moved plays l are

pub place_rows-requires-clause-own : goal.place_rows-requires-clause-own
place_rows-requires-clause-own c =
    let r = c.requires.ready.1 in
    let plays = c.move_at-chosen.ensures.plays c.requires.ready.0 r.stands.0 r.stands.1 in
    rw c.requires.turn plays.is_class.here.0

pub relabel_from-requires-clause-held : goal.relabel_from-requires-clause-held
relabel_from-requires-clause-held c =
    let r = c.requires.ready.1 in
    (left r.fit r.classes (rw c.deref.ensures.value at c.rest_of-rest.ensures)).is_rest.held

pub relabel_from-requires-clause-few : goal.relabel_from-requires-clause-few
relabel_from-requires-clause-few c =
    let r = c.requires.ready.1 in
    rw c.in_ok-place_rows.ensures.added.store (omega (arith, count_is r.fit, r.letters))

pub relabel_from-requires-clause-within : goal.relabel_from-requires-clause-within
relabel_from-requires-clause-within c =
    let r = c.requires.ready.1 in
    let at = r.stands.1 in
    let plays = c.move_at-chosen.ensures.plays c.requires.ready.0 r.stands.0 at in
    let l = left r.fit r.classes (rw c.deref.ensures.value at c.rest_of-rest.ensures) in
    let t = c.args.store.now in
    let are = rw (← c.deref-2.ensures.value) at c.in_ok-leaves.ensures in
    renamed_within t c.rest_of-rest.result c.deref-3.ensures.value
    (all_noted r.plan c.requires.turn r.kept at plays l are c.in_ok-place_rows.ensures.placed)

pub returns : goal.returns
returns c =
    let r = c.requires.ready.1 in
    let at = r.stands.1 in
    let plays = c.move_at-chosen.ensures.plays c.requires.ready.0 r.stands.0 at in
    let l = left r.fit r.classes (rw c.deref.ensures.value at c.rest_of-rest.ensures) in
    let t = c.args.store.now in
    let are = rw (← c.deref-2.ensures.value) at c.in_ok-leaves.ensures in
    let w = c.place_rows.new.self in
    let u = c.relabel_from.new.self in
    let added = c.in_ok-place_rows.ensures.added in
    record {
      keeps = rw added.store at c.relabel_from.ensures.keeps;
      same_rows = added.same_rows;
      rows = added.rows;
      drawn = both_ok _ _ (IsDrawnBy c.args.plan.now u w.rows.keys c.args.vertex) c.relabel_from.result
          c.relabel_from.ensures.held c.relabel_from.ensures.leaf
          (λ made held named. drawn_first r.plan c.requires.turn r.kept at plays l are
          c.in_ok-place_rows.ensures.placed u made held
          (renamed t u w.places.items c.deref-3.result.now c.rest_of-rest.result made c.deref-3.ensures.value named));
    }
