use Rattle.std.proofs.Common.{◌≡◌, ◌+◌}
use Rattle.ps_attractor.specs.Graphs.{edges_before}
use Rattle.ps_attractor.proofs.room.has_room_for_edges.Given as goal

abbrev pub invariant-loop-vertex : goal.invariant-loop-vertex
invariant-loop-vertex g l = l.room + edges_before (g.A.Arena.game l.arena) l.vertex ≡ g.W.Width.LIMIT
