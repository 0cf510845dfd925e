use Rattle.std.proofs.Common.{◌≡◌, drop}
use Rattle.std.specs.Prelude.{max}
use Rattle.ps_game.specs.Plays.{greatest}
use Rattle.ps_pgsolver.proofs.writer.greatest_id.Given as goal

abbrev pub invariant-loop-vertex : goal.invariant-loop-vertex
invariant-loop-vertex l = max l.most (greatest (drop l.vertex l.game.ids)) ≡ greatest l.game.ids
