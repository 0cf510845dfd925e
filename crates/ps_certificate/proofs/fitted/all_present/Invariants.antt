use Rattle.std.proofs.Common.{ℕ, ◌-◌, ◌<◌, ◌≤◌, length, get_or}
use Rattle.ps_game.specs.Ranking.{HasPriority}
use Rattle.ps_certificate.proofs.fitted.all_present.Given as goal

-- each number of the list before index `start` is the priority of some vertex
abbrev pub invariant-loop-start : goal.invariant-loop-start
invariant-loop-start g l = record {
  within : l.start ≤ length l.rising.list.now;
  present : (k : ℕ) → k < l.start → HasPriority (g.A.Arena.game l.arena) (get_or l.rising.list.now k 0);
}

abbrev pub decreases-loop-start : goal.decreases-loop-start
decreases-loop-start g l = length l.rising.list.now - l.start
