use Rattle.std.proofs.Common.{arith}
use Rattle.ps_pgsolver.proofs.WriterLemmas.{greatest_step, greatest_end}
use Rattle.ps_pgsolver.proofs.writer.greatest_id.Goals as goal

pub loop-vertex-init : goal.loop-vertex-init
loop-vertex-init c = grind arith

pub loop-vertex-preserved : goal.loop-vertex-preserved
loop-vertex-preserved c = grind (arith, greatest_step)

pub returns : goal.returns
returns c = grind (arith, greatest_end)
