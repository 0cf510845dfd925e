use Rattle.std.proofs.Common.{arith}
use Rattle.ps_certificate.proofs.SparseRows.LongerRows.{rises_wider, row_wider}
use Rattle.ps_certificate.proofs.SparseRows.Sparse.{length-counts_from}
use Rattle.ps_certificate.proofs.counts.Counts.extend.Goals as goal

pub invariant_of-self : goal.invariant_of-self
invariant_of-self c = rises_wider 0 _ _ _
    (grind (arith, length-counts_from c.self.inside.placed.items c.self.inside.width 0)) c.self.invariant

pub returns : goal.returns
returns c =
    grind (
      arith,
      length-counts_from c.self.inside.placed.items c.self.inside.width 0,
      row_wider c.self.inside.placed.items c.self.inside.width c.self.invariant c.args.width,
    )
