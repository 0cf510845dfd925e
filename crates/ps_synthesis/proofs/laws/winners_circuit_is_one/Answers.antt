use Rattle.std.proofs.Common.{rules}
use Rattle.ps_synthesis.proofs.OneWinnersCircuit.{circuit_or_none, one_circuit}
use Rattle.ps_synthesis.proofs.laws.winners_circuit_is_one.Goals as goal

pub returns : goal.returns
returns c = search (rules, one_circuit, circuit_or_none)
