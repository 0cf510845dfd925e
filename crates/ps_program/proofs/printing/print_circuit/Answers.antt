use Rattle.std.proofs.Common.{ℕ, List, Ok, refl, subst}
use Rattle.ps_circuit.specs.Texts.{ReadsCircuit}
use Rattle.ps_program.proofs.printing.print_circuit.Goals as goal

pub returns-clause-printed : goal.returns-clause-printed
returns-clause-printed c = record {
  written = refl;
  read_again = subst (λ (t : List ℕ). ReadsCircuit t (Ok c.args.circuit.now)) c.in_ok-write.ensures.bytes
      c.in_ok-write.ensures.read_again;
}
