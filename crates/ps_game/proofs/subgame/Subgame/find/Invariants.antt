use Rattle.std.proofs.Common.{◌<◌, ℕ, IsTrue}
use Rattle.ps_game.specs.Subgames.{LeadsInto}
use Rattle.ps_game.specs.Regions.{has}
use Rattle.ps_game.proofs.subgame.Subgame.find.Given as goal

abbrev pub invariant-loop-vertex : goal.invariant-loop-vertex
invariant-loop-vertex g l = (v : ℕ) → v < l.vertex → IsTrue (has l.fn.region v) →
    (w : ℕ) × LeadsInto (g.A.Arena.game l.arena) (has l.fn.region) v w
