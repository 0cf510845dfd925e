use Rattle.ps_simulate.proofs.UniqueVerdicts.OneVerdict.{one_word}
use Rattle.ps_simulate.proofs.laws.word_is_one.Goals as goal

pub returns : goal.returns
returns c = λ role names controllable d stem lap is has v w a b. one_word is (c.circuit_has_one_values.ensures d is) has
    a b
