use Rattle.std.proofs.Common.{arith}
use Rattle.ps_traces.proofs.CircuitAnswers.{is_answer}
use Rattle.ps_traces.proofs.laws.circuit_answers.Goals as goal

pub returns : goal.returns
returns c = λ order file m circuit is is_for encodes. is_answer order file m circuit (grind arith) is is_for encodes
