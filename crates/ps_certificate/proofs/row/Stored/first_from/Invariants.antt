use Rattle.std.proofs.Common.{◌-◌, length}
use Rattle.ps_certificate.specs.Sparse.{AreBefore}
use Rattle.ps_certificate.proofs.row.Stored.first_from.Given as goal

abbrev pub invariant-loop-number : goal.invariant-loop-number
invariant-loop-number l = AreBefore l.placed l.place l.number

abbrev pub decreases-loop-number : goal.decreases-loop-number
decreases-loop-number l = length l.placed - l.number
