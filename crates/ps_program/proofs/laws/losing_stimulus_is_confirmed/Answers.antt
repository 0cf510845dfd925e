use Rattle.ps_specification.specs.Requirements.{order_in, requirement_of}
use Rattle.ps_program.proofs.Exchanged.ConfirmedStimuli.{losing_confirmed}
use Rattle.ps_program.proofs.laws.losing_stimulus_is_confirmed.Goals as goal

pub returns : goal.returns
returns c = losing_confirmed c.one_answer.ensures c.read_circuit_is_circuit.ensures
    c.stimulus_text_has_one_answer.ensures c.word_is_one.ensures c.names_differ.ensures.distinct
    c.word_is_there.ensures
    (λ role spec circuit s word.
    c.losing_word_is_wrong.ensures (order_in spec) role (requirement_of spec) circuit s word)
