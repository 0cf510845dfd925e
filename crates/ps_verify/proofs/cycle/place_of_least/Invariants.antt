use Rattle.std.proofs.Common.{◌<◌, ◌≤◌, ℕ, length, get_or}
use Rattle.ps_verify.proofs.cycle.place_of_least.Given as goal

abbrev pub invariant-loop-place : goal.invariant-loop-place
invariant-loop-place l = (l.least < length l.vertices) × ((k : ℕ) → k < l.place →
    get_or l.vertices l.least 0 ≤ get_or l.vertices k 0)
