-- The law `read_circuit_is_circuit` is proved by the lemma `circuit_is_sound`.
use Rattle.ps_circuit.proofs.ReadCircuits.SoundTexts.{circuit_is_sound}
use Rattle.ps_circuit.proofs.laws.read_circuit_is_circuit.Goals as goal

pub returns : goal.returns
returns c = circuit_is_sound
