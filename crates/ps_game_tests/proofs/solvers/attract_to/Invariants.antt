use Rattle.std.proofs.Common.{◌≡◌, length}
use Rattle.ps_game_tests.proofs.solvers.attract_to.Given as goal

abbrev pub invariant-loop-vertex : goal.invariant-loop-vertex
invariant-loop-vertex g l = length l.target ≡ length l.initial.target
