use Rattle.ps_synthesis.proofs.WinnersCircuitThere.{circuit_or_out}
use Rattle.ps_synthesis.proofs.laws.winners_circuit_is_there.Goals as goal

pub returns : goal.returns
returns c = circuit_or_out c.machine_is_there.ensures c.circuit_is_there.ensures
