use Rattle.ps_circuit.specs.Signs.{newline}
use Rattle.ps_circuit.proofs.fields.newline.Goals as goal

pub returns : goal.returns
unfolding newline
returns c = c.byte.ensures
