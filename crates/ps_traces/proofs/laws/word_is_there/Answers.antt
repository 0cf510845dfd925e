use Rattle.ps_traces.proofs.Verdicts.{word_there}
use Rattle.ps_traces.proofs.laws.word_is_there.Goals as goal

pub returns : goal.returns
returns c = λ role names controllable circuit stem lap distinct is_circuit has wide some.
    word_there role names controllable circuit stem lap distinct has
    (c.circuit_has_one_values.ensures circuit is_circuit) wide some
