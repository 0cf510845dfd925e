use Rattle.ps_synthesis.proofs.MixedWinners.{circuit_back}
use Rattle.ps_synthesis.proofs.mixing.circuit_of_mixed.Goals as goal

pub returns : goal.returns
returns c file mixing is sound order game of certificate circuit is_circuit =
    circuit_back order file mixing is sound game of certificate circuit is_circuit
