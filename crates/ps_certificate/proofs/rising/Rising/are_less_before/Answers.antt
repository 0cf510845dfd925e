use Rattle.std.proofs.Common.{arith}
use Rattle.ps_certificate.proofs.SparseRows.Lists.{less_before}
use Rattle.ps_certificate.proofs.rising.Rising.are_less_before.Goals as goal

pub returns : goal.returns
returns c = grind (arith, less_before c.args.self.list.now c.args.number c.args.place c.args.self.rises c.requires)
