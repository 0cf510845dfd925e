use Rattle.ps_diagram.specs.Table.{Keeps}
use Rattle.ps_machine.specs.Keys.{mover_of}
use Rattle.ps_brief.specs.Inner.Arranging.{AreArenaVertices}
use Rattle.ps_brief.specs.Settings.{board_in}
use Rattle.ps_brief.proofs.arena.vertices_of.Given as goal

abbrev pub invariant-loop-key : goal.invariant-loop-key
invariant-loop-key l = record {
  keeps : Keeps l.fn.store l.store;
  vertices : AreArenaVertices (board_in l.setting) l.bases (mover_of l.setting.order) l.keys.list.items l.vertices
      l.key-index;
}
