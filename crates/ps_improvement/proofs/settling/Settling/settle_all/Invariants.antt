use Rattle.std.proofs.Common.{◌≡◌, ◌<◌}
use Rattle.std.specs.List.{All}
use Rattle.ps_game.specs.Games.{vertex_count}
use Rattle.ps_improvement.proofs.settling.Settling.settle_all.Given as goal

abbrev pub invariant-loop : goal.invariant-loop
invariant-loop g l = record {
  same : l.self.ground ≡ l.initial.self.ground;
  within : All (λ v. v < vertex_count (g.A.Arena.game l.self.ground.now.arena.now)) l.rest;
}
