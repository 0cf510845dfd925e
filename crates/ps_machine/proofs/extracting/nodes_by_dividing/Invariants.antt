use Rattle.std.proofs.Common.{◌≡◌, length}
use Rattle.ps_machine.specs.Dividing.{IsFit}
use Rattle.ps_machine.specs.Inner.Assembling.{AreDrawn}
use Rattle.ps_machine.specs.BuiltBoards.{board_of}
use Rattle.ps_machine.proofs.extracting.nodes_by_dividing.Given as goal

-- each memory state that was visited so far has its diagram
abbrev pub invariant-loop-vertex : goal.invariant-loop-vertex
invariant-loop-vertex l = record {
  fit : IsFit l.plan.order l.plan.automaton.now l.mask l.store;
  letters : l.drawing.store.propositions ≡ length l.plan.automaton.now.names;
  drawn : AreDrawn l.plan.moves_first (board_of l.plan.order l.plan.automaton.now) l.plan.keys.now
      l.plan.memories.now.kept.items l.plan.certificate.now l.drawing.store l.drawing.rows.keys l.nodes.items
      l.vertex-index;
}
