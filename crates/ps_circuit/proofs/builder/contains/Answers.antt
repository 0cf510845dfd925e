use Rattle.std.proofs.Common.{◌∙◌}
use Rattle.ps_circuit.proofs.GatesAndLinks.GateLemmas.{has_gate}
use Rattle.ps_circuit.proofs.builder.contains.Goals as goal

pub returns : goal.returns
returns c = c.is_some.ensures ∙ has_gate c.args.gates.now c.args.sides.now c.find.result c.find.ensures
