use Rattle.std.proofs.Common.{◌-◌, length}
use Rattle.ps_certificate.proofs.SparseRows.RowCopies.{AreNotAbove}
use Rattle.ps_certificate.proofs.row.Row.first_above.Given as goal

abbrev pub invariant-loop-number : goal.invariant-loop-number
invariant-loop-number l = AreNotAbove l.self-inside.placed.list.now l.other-inside.placed.list.now l.from l.number

abbrev pub decreases-loop-number : goal.decreases-loop-number
decreases-loop-number l = length l.self-inside.placed.list.now - l.number
