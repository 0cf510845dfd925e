use Rattle.ps_circuit.proofs.ReadCircuits.FieldLemmas.{line_end_tells}
use Rattle.ps_circuit.proofs.fields.line_end.Goals as goal

pub returns : goal.returns
returns c = line_end_tells c.newline.new.cursor c.newline.result c.run.ensures c.newline.ensures
