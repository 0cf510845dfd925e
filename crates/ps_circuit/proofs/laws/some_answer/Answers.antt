-- The law `some_answer` is proved by the lemma `some_reading`.
use Rattle.ps_circuit.proofs.ReadCircuits.SomeCircuitReading.{some_reading}
use Rattle.ps_circuit.proofs.laws.some_answer.Goals as goal

pub returns : goal.returns
returns c = some_reading
