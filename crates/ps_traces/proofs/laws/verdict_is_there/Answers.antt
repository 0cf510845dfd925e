use Rattle.std.proofs.Common.{arith}
use Rattle.ps_traces.proofs.Verdicts.{verdict_there}
use Rattle.ps_traces.proofs.laws.verdict_is_there.Goals as goal

pub returns : goal.returns
returns c = λ role file circuit stem lap sound admitted is_circuit has wide some.
    (let auto = c.automaton_is_there.ensures file sound admitted in
    verdict_there role file circuit stem lap sound.names has (grind arith) wide some auto.0 auto.1 auto.2 auto.3)
