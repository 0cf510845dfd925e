use Rattle.std.proofs.Common.{arith}
use Rattle.ps_simulate.proofs.simulator.fill.Goals as goal

pub returns : goal.returns
returns c = grind arith
