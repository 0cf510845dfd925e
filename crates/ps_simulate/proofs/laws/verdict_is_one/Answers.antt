use Rattle.ps_simulate.proofs.UniqueVerdicts.OneVerdict.{one_verdict}
use Rattle.ps_simulate.proofs.laws.verdict_is_one.Goals as goal

pub returns : goal.returns
returns c = λ role file d stem lap is has v w a b. one_verdict is (c.circuit_has_one_values.ensures d is) has a b
