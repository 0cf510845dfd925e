use Rattle.std.proofs.Common.{rules}
use Rattle.ps_certificate.proofs.SparseRows.Sparse.{row_at, length-counts_from}
use Rattle.ps_certificate.proofs.row.Row.at.Goals as goal

pub returns : goal.returns
returns c = search (rules, length-counts_from, row_at)
