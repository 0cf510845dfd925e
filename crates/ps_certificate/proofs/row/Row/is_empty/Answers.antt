use Rattle.ps_certificate.proofs.SparseRows.Sparse.{length-counts_from}
use Rattle.ps_certificate.proofs.row.Row.is_empty.Goals as goal

pub returns : goal.returns
returns c = cc (length-counts_from c.self.inside.placed.list.now c.self.inside.width 0, c.self.view_is)
