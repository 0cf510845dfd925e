use Rattle.ps_traces.proofs.Words.{machine_words}
use Rattle.ps_traces.proofs.laws.circuit_has_machine_words.Goals as goal

pub returns : goal.returns
returns c = machine_words
