use Rattle.ps_certificate.proofs.SparseRows.Sparse.{rising}
use Rattle.ps_certificate.proofs.row.Row.of.Goals as goal

pub invariant_of-placed : goal.invariant_of-placed
invariant_of-placed c = record { rising = rising 0 c.args.width c.args.nonzero.now c.requires }
