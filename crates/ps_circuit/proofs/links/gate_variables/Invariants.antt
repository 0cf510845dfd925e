use Rattle.std.proofs.Common.{◌≡◌, take}
use Rattle.ps_circuit.specs.GateGraphs.{gate_variables}
use Rattle.ps_circuit.proofs.links.gate_variables.Given as goal

abbrev pub invariant-loop-gate : goal.invariant-loop-gate
invariant-loop-gate l = l.variables ≡ take l.gate-index (gate_variables l.gates)
