use Rattle.std.proofs.Common.{◌≡◌}
use Rattle.ps_machine.specs.BuiltBoards.{board_of}
use Rattle.ps_machine.proofs.Machines.Diagrams.FirstDrawing.{AreNoted}
use Rattle.ps_machine.proofs.drawing.Drawing.place_rows.Given as goal

-- for each leaf that was visited so far, the index of the machine's row for this leaf is recorded
abbrev pub invariant-loop-number : goal.invariant-loop-number
invariant-loop-number l = record {
  store : l.self.store ≡ l.fn.self.store;
  noted : AreNoted l.plan.automaton.now l.plan.keys.now l.plan.moves_first
      (board_of l.plan.order l.plan.automaton.now) l.plan.memories.now.kept.items l.letter l.leaves l.fn.self.rows.keys
      l.self.rows.keys l.self.places.items l.number;
}
