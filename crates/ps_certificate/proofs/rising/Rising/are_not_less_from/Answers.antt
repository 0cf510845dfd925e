use Rattle.std.proofs.Common.{arith}
use Rattle.ps_certificate.proofs.SparseRows.Lists.{not_less_from}
use Rattle.ps_certificate.proofs.rising.Rising.are_not_less_from.Goals as goal

pub returns : goal.returns
returns c = grind (arith, not_less_from c.args.self.list.now c.args.number c.args.place c.args.self.rises)
