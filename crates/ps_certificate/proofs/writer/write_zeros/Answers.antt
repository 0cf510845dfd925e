use Rattle.std.proofs.Common.{arith}
use Rattle.std.proofs.lemmas.Grind.{common_steps}
use Rattle.ps_certificate.proofs.SparseRows.ZeroRuns.{fields-zeros, take-zeros}
use Rattle.ps_certificate.proofs.writer.write_zeros.Goals as goal

pub returns : goal.returns
returns c = grind (arith, common_steps, take-zeros c.args.zeros 40 c.requires, fields-zeros c.args.zeros)
