use Rattle.std.proofs.Common.{◌≡◌, ◌++◌, drop, take}
use Rattle.std.specs.List.{All}
use Rattle.ps_pgsolver.specs.Written.{vertex_lines, IsWord}
use Rattle.ps_pgsolver.proofs.writer.write_vertices.Given as goal

abbrev pub invariant-loop-vertex : goal.invariant-loop-vertex
invariant-loop-vertex l = record {
  bytes : l.out.items ++ vertex_lines l.game.ids l.game.names l.vertex (drop l.vertex l.game.game) ≡ l.initial.out.items
      ++ vertex_lines l.game.ids l.game.names 0 l.game.game;
  ids : All IsWord (take l.vertex l.game.ids);
  priorities : All (λ vertex. IsWord vertex.priority) (take l.vertex l.game.game);
}
