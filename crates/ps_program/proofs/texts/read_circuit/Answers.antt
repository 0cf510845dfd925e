use Rattle.ps_circuit.specs.CauseNames.{cause_name}
use Rattle.ps_circuit.specs.Causes.{cause_number}
use Rattle.ps_circuit.specs.Circuits.{CircuitData}
use Rattle.ps_circuit.specs.Texts.{ReadsCircuit}
use Rattle.ps_program.proofs.ByCommand.OutcomeLemmas.{gives_parsed}
use Rattle.ps_program.proofs.texts.read_circuit.Goals as goal

pub returns : goal.returns
returns c = c.in_ok-read.ensures.exact

pub returns-in_err-read : goal.returns-in_err-read
returns-in_err-read c = gives_parsed {X = CircuitData} {V = CircuitData} cause_number cause_name
    (ReadsCircuit c.args.text.now) (λ circuit. circuit) c.in_err-read.field-0.0 c.from_residual.result
    c.in_err-read.ensures.exact c.from_residual.ensures.1
