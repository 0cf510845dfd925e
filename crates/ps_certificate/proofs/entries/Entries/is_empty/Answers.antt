use Rattle.ps_certificate.proofs.SparseRows.Lines.{length-entries}
use Rattle.ps_certificate.proofs.entries.Entries.is_empty.Goals as goal

pub returns : goal.returns
returns c = let long = length-entries c.self.invariant in cc (long, c.self.view_is)
