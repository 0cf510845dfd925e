use Rattle.std.proofs.Common.{rules}
use Rattle.ps_aiger.proofs.OneCircuit.{one_circuit}
use Rattle.ps_aiger.proofs.laws.one_circuit.Goals as goal

pub returns : goal.returns
returns c = search (rules, one_circuit)
