use Rattle.std.proofs.Common.{arith, inr}
use Rattle.ps_simulate.specs.Stimuli.{stem_of}
use Rattle.ps_program.proofs.commands.sim.sim.Goals as goal

pub returns : goal.returns
returns c = inr (
  (c.in_ok-circuit.circuit, stem_of c.in_ok-circuit.letters),
  c.in_ok-circuit.ensures.read,
  grind arith,
)
