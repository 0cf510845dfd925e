use Rattle.std.proofs.Common.{◌≡◌, ℕ, ◌+◌, ◌<◌, length, get_or}
use Rattle.ps_simulate.specs.declared.plan.Row.{Row}
use Rattle.ps_simulate.specs.LanePlans.{moved, AreKept}
use Rattle.ps_simulate.proofs.lane_plan.moved_places.Given as goal

abbrev pub invariant-loop-number : goal.invariant-loop-number
invariant-loop-number l = record {
  size : length l.places.items ≡ l.size;
  kept : AreKept l.front l.places.items;
  in_order : (k : ℕ) (d : Row) → k < l.number → moved l.places.items (get_or l.rows k d).target ≡ l.front + k;
}
