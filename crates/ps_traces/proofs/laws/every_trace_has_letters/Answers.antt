use Rattle.ps_traces.proofs.StepLetters.{has_letters}
use Rattle.ps_traces.proofs.laws.every_trace_has_letters.Goals as goal

pub returns : goal.returns
returns c = λ role file circuit moments are_names has. has_letters are_names has moments
