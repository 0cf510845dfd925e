use Rattle.std.proofs.Common.{◌≡◌, ℕ, ◌%◌, ◌<◌}
use Rattle.std.specs.List.{Contains}
use Rattle.ps_game.specs.Games.{priority_of}
use Rattle.ps_certificate.proofs.fitted.is_complete.Given as goal

-- the list contains the priority of each vertex before the loop's index, if that priority has the given parity
abbrev pub invariant-loop-vertex : goal.invariant-loop-vertex
invariant-loop-vertex g l = (v : ℕ) → v < l.vertex → priority_of (g.A.Arena.game l.arena) v % 2 ≡ l.parity →
    Contains l.rising.list.now (priority_of (g.A.Arena.game l.arena) v)
