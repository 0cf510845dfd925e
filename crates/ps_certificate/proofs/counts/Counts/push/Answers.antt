use Rattle.std.proofs.Common.{◌+◌, arith}
use Rattle.ps_certificate.proofs.SparseRows.LongerRows.{rises_one, rises_wider, row_one, row_zero}
use Rattle.ps_certificate.proofs.SparseRows.Sparse.{length-counts_from}
use Rattle.ps_certificate.proofs.counts.Counts.push.Goals as goal
use Rattle.ps_certificate.proofs.counts.Counts.push.Goals.{then-count-ne0+in_ok-push, else-count-ne0}

pub overflow_add-self : goal.overflow_add-self
overflow_add-self c = grind (arith, length-counts_from c.self.inside.placed.items c.self.inside.width 0)

pub invariant_of-self-2 : goal.invariant_of-self-2
invariant_of-self-2 c = elim c.if-count-ne0.branch [
  | then-count-ne0+in_ok-push w ↦ grind (arith, rises_one 0 c.self.inside.width c.args.count)
  | else-count-ne0 w ↦ grind (arith, rises_wider 0 c.self.inside.width (c.self.inside.width + 1))
]

pub returns : goal.returns
returns c = elim c.if-count-ne0.branch [
  | then-count-ne0+in_ok-push w ↦
      grind (arith, row_one c.self.inside.placed.items c.self.inside.width c.self.invariant c.args.count)
  | else-count-ne0 w ↦ grind (arith, row_zero c.self.inside.placed.items c.self.inside.width c.self.invariant)
]
