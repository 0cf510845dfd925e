use Rattle.std.proofs.Common.{◌≡◌, ◌<◌, ℕ, Some, length, get_or, ap, sym, ◌∙◌, refl, arith}
use Rattle.std.specs.List.{slice_get}
use Rattle.std.proofs.lemmas.List.{get_or_default}
use Rattle.ps_machine.specs.contracts.machine.RowPartialEq.TheImpl as row_eq
use Rattle.ps_machine.specs.declared.machine.Row.{Row}
use Rattle.ps_machine.proofs.Machines.Diagrams.FirstDrawing.{add_row, note_more}
use Rattle.ps_machine.proofs.Machines.Diagrams.RowTests.{same_row}
use Rattle.ps_machine.proofs.drawing.Drawing.place_rows.Goals as goal

pub returns-in_err-note-clause-added : goal.returns-in_err-note-clause-added
returns-in_err-note-clause-added c =
    let added = add_row (row_eq.eq-value).it c.loop-number.invariant.noted c.in_ok-place.ensures.keys
    (record { memory = c.memory_behind-memory.ensures.within; letter = c.requires.own }) in
    record { store = c.loop-number.invariant.store; same_rows = added.same_rows; rows = added.each }

pub loop-number-preserved : goal.loop-number-preserved
loop-number-preserved c =
    let leaves = c.args.leaves.now in
    let i = c.loop-number.number in
    let leaf = (get_or leaves i (0, 0)).0 in
    let new = c.insert_full.new.self.keys in
    let row : Row = record { memory = c.memory_behind-memory.result; letter = c.args.letter } in
    let within : i < length leaves = omega (arith, c.loop-number-test.true) in
    let added = add_row (row_eq.eq-value).it c.loop-number.invariant.noted c.in_ok-place.ensures.keys (grind arith) in
    let stored = c.in_ok-place.ensures.stored in
    let at : slice_get new c.in_ok-place.place ≡ Some row = stored.1 ∙ ap (λ r. Some r) (sym (same_row stored.2)) in
    let next = rw c.pair-step.ensures.pair at c.memory_behind-memory.ensures.stands in
    record {
      store = c.loop-number.invariant.store;
      noted = note_more added (λ d. ap (λ (x : ℕ × ℕ). x.0) (get_or_default leaves i d (0, 0) within)) at refl next
          c.in_ok-note.ensures.noted c.in_ok-note.ensures.others;
    }
