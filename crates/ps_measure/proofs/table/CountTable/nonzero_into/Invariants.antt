use Rattle.std.proofs.Common.{◌≡◌, ◌≤◌, ◌++◌, length}
use Rattle.std.specs.Prelude.{reverse, slice_index}
use Rattle.ps_game.specs.Nonzero.{nonzero_from}
use Rattle.ps_measure.specs.Tables.{row_from}
use Rattle.ps_measure.proofs.table.CountTable.nonzero_into.Given as goal

abbrev pub invariant-loop-next : goal.invariant-loop-next
invariant-loop-next l = record {
  first : l.next ≤ length l.self-inside.cells;
  all : nonzero_from 0 (row_from l.self-inside.width l.self-inside.cells l.next) ++ reverse l.list.items ≡
      nonzero_from 0 (row_from l.self-inside.width l.self-inside.cells
      (slice_index l.self-inside.heads l.fn.vertex));
}

abbrev pub decreases-loop-next : goal.decreases-loop-next
decreases-loop-next l = l.next
