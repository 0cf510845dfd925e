use Rattle.ps_circuit.specs.Circuits.{CircuitData}
use Rattle.ps_program.specs.Commands.Verifying.{TellsJudgement, VerifiesText}
use Rattle.ps_program.specs.Replies.{reply_of}
use Rattle.ps_program.specs.Texts.{ReadsCircuitText}
use Rattle.ps_program.proofs.ByCommand.OutcomeLemmas.{gives_after, gives_failed, gives_passed}
use Rattle.ps_program.proofs.commands.verify.verify_text.Goals as goal

pub returns-in_err-circuit : goal.returns-in_err-circuit
returns-in_err-circuit c = λ file chain built.
    gives_passed reply_of (VerifiesText c.args.order c.args.role file c.args.aag.now) _ _ c.from_residual.ensures.1
    (gives_failed {X = CircuitData} {V = CircuitData} (λ circuit. circuit) (ReadsCircuitText c.args.aag.now) reply_of
    (TellsJudgement c.args.order c.args.role file) c.in_err-circuit.field-0.0 c.in_err-circuit.ensures)

pub returns : goal.returns
returns c = λ file chain built. gives_after (ReadsCircuitText c.args.aag.now) reply_of
    (TellsJudgement c.args.order c.args.role file) c.in_ok-circuit.circuit c.tell.result c.in_ok-circuit.ensures
    (c.tell.ensures file chain built)
