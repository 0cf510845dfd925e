use Rattle.std.proofs.Common.{arith}
use Rattle.ps_diagram.specs.declared.classes.Class.{Class}
use Rattle.ps_machine.specs.Inner.Planning.{IsDrawnBy, NamesAnswerBy}
use Rattle.ps_machine.proofs.AutomatonGames.BoardSteps.{class_rests, count_is}
use Rattle.ps_machine.proofs.Machines.Diagrams.DrawingLemmas.{kept_used}
use Rattle.ps_machine.proofs.AutomatonGames.GameKeys.Exploring.{both_ok}
use Rattle.ps_machine.proofs.Machines.Diagrams.SecondDrawing.{class_each, drawn_second, named_as, places_within}
use Rattle.ps_machine.proofs.drawing.Drawing.second_node.Goals as goal

pub rows_of_classes-requires-clause-entered : goal.rows_of_classes-requires-clause-entered
rows_of_classes-requires-clause-entered c =
    let r = c.requires.ready in (
      r.stands.0,
      record {
        plan = r.plan;
        vertex = c.args.vertex;
        stands = r.stands.1;
        is_used = kept_used r.plan r.kept;
      },
    )

pub rows_of_classes-requires-clause-classes : goal.rows_of_classes-requires-clause-classes
rows_of_classes-requires-clause-classes c =
    let r = c.requires.ready in
    rw c.deref.ensures.value (class_each r.fit r.classes)

pub rows_of_classes-requires-clause-rests : goal.rows_of_classes-requires-clause-rests
rows_of_classes-requires-clause-rests c =
    let r = c.requires.ready in
    rw c.deref.ensures.value (λ i x within. (r.mask, r.fit, class_rests r.fit r.classes i x within))

pub relabel_from-requires-clause-held : goal.relabel_from-requires-clause-held
relabel_from-requires-clause-held c = c.requires.ready.classes.are.held

pub relabel_from-requires-clause-few : goal.relabel_from-requires-clause-few
relabel_from-requires-clause-few c =
    let r = c.requires.ready in
    rw c.in_ok-values.ensures.added.store (omega (arith, count_is r.fit, r.letters))

pub relabel_from-requires-clause-within : goal.relabel_from-requires-clause-within
relabel_from-requires-clause-within c letter within =
    let plan = c.args.plan.now in
    let r = c.requires.ready in
    let rows = c.rows_of_classes.new.self.rows.keys in
    places_within plan.keys.now plan.memories.now.kept.items plan.certificate.now rows c.deref-2.result.now
    r.fit r.classes (grind arith) letter

pub returns : goal.returns
returns c =
    let plan = c.args.plan.now in
    let r = c.requires.ready in
    let rows = c.rows_of_classes.new.self.rows.keys in
    let named = named_as (λ (class : Class) value. NamesAnswerBy plan rows c.args.state class.letter value)
    c.deref.ensures.value c.deref-2.ensures.value c.in_ok-values.ensures.values in
    let u = c.relabel_from.new.self in
    let added = c.in_ok-values.ensures.added in
    record {
      keeps = rw added.store at c.relabel_from.ensures.keeps;
      same_rows = added.same_rows;
      rows = added.rows;
      drawn = both_ok _ _ (IsDrawnBy plan u rows c.args.vertex) c.relabel_from.result c.relabel_from.ensures.held
          c.relabel_from.ensures.leaf (λ node held leaf. rw c.requires.turn
          (drawn_second plan.keys.now plan.memories.now.kept.items plan.certificate.now rows c.deref-2.result.now
          r.fit r.classes named u node leaf c.args.vertex r.stands.0 r.stands.1 held));
    }
