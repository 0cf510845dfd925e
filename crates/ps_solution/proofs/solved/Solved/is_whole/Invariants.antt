use Rattle.std.proofs.Common.{◌≡◌, ◌<◌, ℕ, true}
use Rattle.ps_game.specs.Regions.{has}
use Rattle.ps_solution.proofs.solved.Solved.is_whole.Given as goal

-- the solution has an entry for each vertex before the loop's index
abbrev pub invariant-loop-vertex : goal.invariant-loop-vertex
invariant-loop-vertex l = (v : ℕ) → v < l.vertex → has l.self.named v ≡ true
