use Rattle.std.proofs.Common.{rules}
use Rattle.std.proofs.lemmas.List.{take_all}
use Rattle.ps_machine.specs.BuiltBoards.{board_of}
use Rattle.ps_machine.specs.Inner.Drawing.{IsRow}
use Rattle.ps_machine.specs.contracts.machine.RowPartialEq.TheImpl as row_eq
use Rattle.ps_machine.proofs.Machines.Diagrams.DrawingLemmas.{all_rows, keeps_rows, keeps_rows_trans}
use Rattle.ps_machine.proofs.Machines.Diagrams.SecondDrawing.{Names, answer_row, named_next}
use Rattle.ps_machine.proofs.drawing.Drawing.rows_of_classes.Goals as goal

pub returns-in_err-push-clause-added : goal.returns-in_err-push-clause-added
returns-in_err-push-clause-added c =
    let plan = c.args.plan.now in
    let board = board_of plan.order plan.automaton.now in
    let kept = plan.memories.now.kept.items in
    let row = c.in_ok-row.row in
    let inv = c.loop-number.invariant in
    let keys = c.in_ok-place.ensures.keys in
    record {
      store = inv.store;
      same_rows = keeps_rows_trans inv.same_rows (keeps_rows (row_eq.eq-value).it row keys);
      rows = all_rows (IsRow plan.moves_first board kept) (row_eq.eq-value).it c.loop-number.self.rows.keys row keys
          inv.rows (answer_row c.requires.turn c.in_ok-row.ensures);
    }

pub loop-number-preserved : goal.loop-number-preserved
loop-number-preserved c =
    let plan = c.args.plan.now in
    let board = board_of plan.order plan.automaton.now in
    let kept = plan.memories.now.kept.items in
    let old = c.loop-number.self.rows.keys in
    let new = c.insert_full.new.self.keys in
    let inv = c.loop-number.invariant in
    record {
      store = inv.store;
      same_rows =
          keeps_rows_trans inv.same_rows (keeps_rows (row_eq.eq-value).it c.in_ok-row.row c.in_ok-place.ensures.keys);
      rows = all_rows (IsRow plan.moves_first board kept) (row_eq.eq-value).it old c.in_ok-row.row
          c.in_ok-place.ensures.keys inv.rows (answer_row c.requires.turn c.in_ok-row.ensures);
      values =
          named_next old new c.args.classes.now c.loop-number.number c.index-classes-number.result c.loop-number.values.items
          c.push.new.self.items c.in_ok-place.place c.in_ok-place.ensures.keys inv.values c.loop-number-test.true
          c.index-classes-number.is c.in_ok-place.ensures.stored c.in_ok-row.ensures c.in_ok-push.ensures.items;
    }

pub returns-clause-values : goal.returns-clause-values
returns-clause-values c = search (rules, Names, take_all)

pub row_of_class-requires-clause-rest : goal.row_of_class-requires-clause-rest
row_of_class-requires-clause-rest c =
    rw c.index-classes-number.is (c.requires.rests c.loop-number.number c.index-classes-number.result c.loop-number-test.true)
