use Rattle.std.proofs.Common.{rules, arith, inr}
use Rattle.ps_program.specs.Texts.{ReadsSimulated}
use Rattle.ps_program.proofs.ByCommand.OutcomeLemmas.{gives_passed}
use Rattle.ps_program.proofs.ByCommand.CircuitLemmas.{run_view, simulated_circuit_fault, simulated_stimulus_fault}
use Rattle.ps_program.proofs.texts.read_simulated.Goals as goal

pub returns-in_err-circuit-clause-read : goal.returns-in_err-circuit-clause-read
returns-in_err-circuit-clause-read c = grind (
  arith,
  simulated_circuit_fault _ _ _ c.in_err-circuit.field-0.0 c.in_ok-text.ensures c.in_err-circuit.ensures,
)

pub returns-in_err-letters-clause-read : goal.returns-in_err-letters-clause-read
returns-in_err-letters-clause-read c = gives_passed run_view (ReadsSimulated c.args.texts.now) _ _
    c.from_residual-in_err-letters.ensures.1 (simulated_stimulus_fault _ _ _ _ c.in_err-letters.field-0.0
    c.in_ok-text.ensures c.in_ok-circuit.ensures (grind arith))

pub returns-clause-read : goal.returns-clause-read
returns-clause-read c = inr (
  (c.in_ok-text.text.now, c.in_ok-text.stimulus.now),
  c.in_ok-text.ensures,
  inr (
    c.in_ok-circuit.circuit,
    c.in_ok-circuit.ensures,
    search rules,
  ),
)
