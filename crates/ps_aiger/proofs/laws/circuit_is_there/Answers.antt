use Rattle.ps_aiger.proofs.CircuitThere.{circuit_there}
use Rattle.ps_aiger.proofs.laws.circuit_is_there.Goals as goal

pub returns : goal.returns
returns c = circuit_there
