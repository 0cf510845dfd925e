-- The law `one_answer` is proved by the lemma `one_reading`.
use Rattle.ps_circuit.proofs.ReadCircuits.OneCircuitReading.{one_reading}
use Rattle.ps_circuit.proofs.laws.one_answer.Goals as goal

pub returns : goal.returns
returns c = one_reading
