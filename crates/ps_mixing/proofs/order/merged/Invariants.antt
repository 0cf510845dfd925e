use Rattle.std.proofs.Common.{ℕ, Bool, ◌+◌, ◌-◌, ◌≤◌, length}
use Rattle.ps_mixing.specs.Inner.Merging.{AreMerged, CanMerge}
use Rattle.ps_mixing.proofs.order.merged.Given as goal

abbrev pub invariant-more : goal.invariant-more
invariant-more l = record {
  few_others : l.i ≤ length l.others;
  few_own : l.j ≤ length l.own;
  merged : (is_own : ℕ → Bool) → CanMerge is_own l.others l.own → AreMerged is_own l.others l.own l.i l.j l.from.items;
}

abbrev pub decreases-more : goal.decreases-more
decreases-more l = (length l.others - l.i) + (length l.own - l.j)
