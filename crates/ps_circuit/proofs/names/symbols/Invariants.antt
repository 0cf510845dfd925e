use Rattle.std.proofs.Common.{length, vec_len}
use Rattle.ps_text.specs.Parts.{many}
use Rattle.ps_text.specs.Readers.{Carries}
use Rattle.ps_circuit.specs.Signs.{aig_causes}
use Rattle.ps_circuit.specs.Texts.{symbol_line}
use Rattle.ps_circuit.specs.Inner.Names.{AreNames, names_data}
use Rattle.ps_circuit.proofs.names.symbols.Given as goal

abbrev pub invariant-more : goal.invariant-more
invariant-more l = record {
  names : AreNames l.names (vec_len l.initial.names.inputs) (vec_len l.initial.names.latches)
      (vec_len l.initial.names.outputs);
  carries : Carries aig_causes (many symbol_line (names_data l.initial.names)) l.initial.cursor
      (many symbol_line (names_data l.names)) l.cursor;
}

abbrev pub decreases-more : goal.decreases-more
decreases-more l = length l.cursor.pieces
