use Rattle.std.proofs.Common.{◌≡◌, ◌<◌, ◌≤◌, ℕ, length, max}
use Rattle.std.specs.Prelude.{slice_index}
use Rattle.ps_measure.specs.Tables.{count_from}
use Rattle.ps_measure.proofs.table.raise_by.Given as goal

abbrev pub invariant-loop-next : goal.invariant-loop-next
invariant-loop-next l = record {
  long : length l.row.items ≡ length l.initial.row.items;
  first : l.next ≤ length l.cells;
  raised : (k : ℕ) → k < length l.initial.row.items →
      max (slice_index l.row.items k) (count_from l.cells l.next l.next k)
      ≡ max (slice_index l.initial.row.items k) (count_from l.cells l.fn.head l.fn.head k);
}

abbrev pub decreases-loop-next : goal.decreases-loop-next
decreases-loop-next l = l.next
