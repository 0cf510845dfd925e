use Rattle.std.proofs.Common.{◌≡◌, length}
use Rattle.ps_improvement.proofs.attempting.answer_of.Given as goal

abbrev pub invariant-loop-vertex : goal.invariant-loop-vertex
invariant-loop-vertex g l = (length l.won ≡ l.count) × (length l.second ≡ l.count)
