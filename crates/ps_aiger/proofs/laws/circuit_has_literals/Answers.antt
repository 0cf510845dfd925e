use Rattle.ps_aiger.proofs.OneCircuit.{not_out}
use Rattle.ps_aiger.proofs.laws.circuit_has_literals.Goals as goal

pub returns : goal.returns
returns c = λ b o x machine same encodes tidy wired out. not_out b o x same encodes tidy wired machine.some out
