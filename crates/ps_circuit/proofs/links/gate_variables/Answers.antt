use Rattle.std.proofs.Common.{arith}
use Rattle.ps_circuit.proofs.GatesAndLinks.LinksLemmas.{variable_fresh, variables_more}
use Rattle.ps_circuit.proofs.links.gate_variables.Goals as goal

pub push-requires : goal.push-requires
push-requires c =
    let gates = c.args.gates.now in
    let place = c.loop-gate.gate-index in
    grind (arith, variable_fresh gates c.requires.once place c.gate-item.result c.loop-gate-test.true)

pub loop-gate-preserved : goal.loop-gate-preserved
loop-gate-preserved c = grind (arith, variables_more)
