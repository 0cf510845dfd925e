use Rattle.std.proofs.Common.{arith, length, ap}
use Rattle.ps_program.specs.Commands.Lassos.{RunsCircuit, TellsVerdict}
use Rattle.ps_program.specs.Replies.{reply_of}
use Rattle.ps_program.proofs.ByCommand.LassoAnswers.{run_stimulus_fault, run_told}
use Rattle.ps_program.proofs.ByCommand.OutcomeLemmas.{gives_passed}
use Rattle.ps_program.proofs.commands.lasso.run_circuit.Goals as goal

pub returns-in_err-circuit : goal.returns-in_err-circuit
returns-in_err-circuit c = grind arith

pub returns-in_err-stimulus : goal.returns-in_err-stimulus
returns-in_err-stimulus c = λ file chain built. gives_passed reply_of (RunsCircuit c.args.role file c.args.aag.now
    c.args.letters.now) _ _ c.from_residual-in_err-stimulus.ensures.1
    (run_stimulus_fault (TellsVerdict c.args.role file)
    c.args.aag.now c.args.letters.now c.in_ok-circuit.circuit c.in_ok-circuit.ensures (length c.inputs-width.result.now)
    (ap length c.inputs-width.ensures.inputs) c.in_err-stimulus.field-0.0 c.in_err-stimulus.ensures)

pub tell-requires-clause-stem : goal.tell-requires-clause-stem
tell-requires-clause-stem c = grind arith

pub tell-requires-clause-lap : goal.tell-requires-clause-lap
tell-requires-clause-lap c = grind arith

pub returns : goal.returns
returns c = λ file chain built. run_told (TellsVerdict c.args.role file) c.args.aag.now c.args.letters.now
    c.in_ok-circuit.circuit
    c.in_ok-circuit.ensures (length c.inputs-width.result.now) (ap length c.inputs-width.ensures.inputs)
    c.in_ok-stimulus.stimulus c.in_ok-stimulus.ensures c.tell.result (c.tell.ensures file chain built)
