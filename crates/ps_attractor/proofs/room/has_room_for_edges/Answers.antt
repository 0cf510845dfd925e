use Rattle.std.proofs.Common.{◌+◌, ◌≤◌, arith, rules}
use Rattle.ps_attractor.specs.Graphs.{edge_graph}
use Rattle.ps_attractor.proofs.GameEdges.{slots_next, slots_mono}
use Rattle.ps_attractor.proofs.room.has_room_for_edges.Goals as goal

pub loop-vertex-preserved : goal.loop-vertex-preserved
loop-vertex-preserved g c = search (rules, slots_next)

pub returns-then-degree-room : goal.returns-then-degree-room
returns-then-degree-room g c =
    let graph = edge_graph (g.A.Arena.game c.args.arena.now) in
    let next : c.loop-vertex.vertex + 1 ≤ graph.count = omega (arith, c.count-vertex-end.ensures.vertices) in
    grind (arith, slots_mono graph (c.loop-vertex.vertex + 1) graph.count next, slots_next graph c.loop-vertex.vertex)

pub returns : goal.returns
returns g c = grind arith
