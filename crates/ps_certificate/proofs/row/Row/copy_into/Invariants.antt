use Rattle.ps_certificate.proofs.SparseRows.RowCopies.{IsFilled}
use Rattle.ps_certificate.proofs.row.Row.copy_into.Given as goal

abbrev pub invariant-loop-number : goal.invariant-loop-number
invariant-loop-number l = IsFilled l.self-inside.width l.self-inside.placed.list.now l.list.items l.number
