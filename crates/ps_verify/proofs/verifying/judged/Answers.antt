use Rattle.ps_simulate.specs.Stimuli.{letters_of}
use Rattle.ps_verify.proofs.ProductJudgements.{judgement}
use Rattle.ps_verify.proofs.SinkStems.{judged_at_sink}
use Rattle.ps_verify.proofs.verifying.judged.Goals as goal

pub returns-in_ok-told-in-Whole-clause-judged : goal.returns-in_ok-told-in-Whole-clause-judged
returns-in_ok-told-in-Whole-clause-judged c = λ file chain built.
    (let product = rw c.in-Whole.is at c.in_ok-built.ensures.built in
    judgement c.args.order c.args.role file chain c.in_ok-told-in-Whole.field-0 built c.sound.ensures.names
    c.sound.ensures.circuit (c.circuit_has_one_values.ensures c.args.circuit.now c.sound.ensures.circuit)
    c.told.ensures.is_game product c.in_ok-built.ensures.symbols c.in_ok-built.ensures.in_time
    (rw c.asked.ensures at c.in_ok-told-in-Whole.ensures.told))

pub returns-in_ok-lost_by-in-Sink-clause-judged : goal.returns-in_ok-lost_by-in-Sink-clause-judged
returns-in_ok-lost_by-in-Sink-clause-judged c = λ file chain built.
    (let sink = rw c.in-Sink.is at c.in_ok-built.ensures.built in
    judged_at_sink c.args.order c.args.role file chain (letters_of c.in-Sink.stem.items) _ built
    c.sound.ensures.names c.sound.ensures.circuit
    (c.circuit_has_one_values.ensures c.args.circuit.now c.sound.ensures.circuit) c.in_ok-built.ensures.symbols
    c.in_ok-built.ensures.in_time sink c.in_ok-lost_by-in-Sink.ensures.stem c.in_ok-lost_by-in-Sink.ensures.lap)
