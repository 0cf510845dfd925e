use Rattle.std.proofs.Common.{arith, replicate}
use Rattle.ps_certificate.proofs.SparseRows.RowCopies.{resized, filled_next, filled_end}
use Rattle.ps_certificate.proofs.row.Row.copy_into.Goals as goal

pub loop-number-preserved : goal.loop-number-preserved
loop-number-preserved c = grind (arith, replicate, resized, filled_next)

pub returns : goal.returns
returns c =
    let width = c.self.inside.width in
    let list = c.loop-number.list.items in
    grind (
      arith,
      resized list width _ c.loop-number.list.ok.0 c.loop-number.invariant.long,
      filled_end width
          c.self.inside.placed.list.now list c.loop-number.number c.loop-number.invariant c.loop-number-test.false,
    )
