use Rattle.std.proofs.Common.{arith}
use Rattle.ps_tlsf.proofs.ReadFormulas.Unwinding.{unwinds, unwinds_no_more}
use Rattle.ps_tlsf.proofs.work.unwind.Goals as goal

pub frames-preserved : goal.frames-preserved
frames-preserved c = grind (arith, unwinds)

pub returns : goal.returns
returns c = grind (arith, unwinds_no_more)
