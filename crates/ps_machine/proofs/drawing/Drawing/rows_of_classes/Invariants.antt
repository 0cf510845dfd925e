use Rattle.std.proofs.Common.{◌≡◌, take}
use Rattle.std.specs.List.{All, AllZip}
use Rattle.ps_diagram.specs.declared.classes.Class.{Class}
use Rattle.ps_machine.specs.BuiltBoards.{board_of}
use Rattle.ps_machine.specs.Inner.Drawing.{IsRow, KeepsRows, NamesAnswer}
use Rattle.ps_machine.proofs.drawing.Drawing.rows_of_classes.Given as goal

-- for each class of letters that was visited so far, the list has the index of the row of the machine's table that
-- answers this class
abbrev pub invariant-loop-number : goal.invariant-loop-number
invariant-loop-number l = record {
  store : l.self.store ≡ l.fn.self.store;
  same_rows : KeepsRows l.fn.self.rows.keys l.self.rows.keys;
  rows : All (IsRow l.plan.moves_first (board_of l.plan.order l.plan.automaton.now) l.plan.memories.now.kept.items)
      l.self.rows.keys;
  values : AllZip (λ (class : Class) value. NamesAnswer (board_of l.plan.order l.plan.automaton.now)
      l.plan.keys.now l.plan.memories.now.kept.items l.plan.certificate.now l.self.rows.keys l.state class.letter
      value) (take l.number l.classes) l.values.items;
}
