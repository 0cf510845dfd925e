use Rattle.std.proofs.Common.{◌-◌, ℕ, ◌+◌, ◌<◌, ◌≤◌, length, get_or}
use Rattle.ps_certificate.proofs.rising.is_rising.Given as goal

-- the numbers before the loop's index ascend
abbrev pub invariant-loop-place : goal.invariant-loop-place
invariant-loop-place l =
    record {
      begins : 1 ≤ l.place;
      rising : (k : ℕ) → k + 1 < l.place → k + 1 < length l.list → get_or l.list k 0 < get_or l.list (k + 1) 0;
    }

abbrev pub decreases-loop-place : goal.decreases-loop-place
decreases-loop-place l = length l.list - l.place
