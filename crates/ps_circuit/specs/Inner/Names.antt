-- Definitions about the names of inputs, latches and outputs that the AIGER parser has read so far.
use Rattle.std.specs.Prelude.{◌≡◌, ℕ, Bool, false, ◌==◌, ◌||◌, [], map, replicate, All, vec_len, Option, None, Some}
use Rattle.std.specs.Prelude.{Result, Ok, Err}
use Rattle.ps_text.specs.Answers.{Stream}
use Rattle.ps_text.specs.Readers.{Reads}
use Rattle.ps_circuit.specs.Causes.{AigFault}
use Rattle.ps_text.specs.declared.faults.Fault.TheVariants.{Text}
use Rattle.ps_circuit.specs.declared.fault.AigCause.TheVariants.{Syntax}
use Rattle.ps_circuit.specs.declared.names.Names.{Names}
use Rattle.ps_circuit.specs.Circuits.{IsSymbolName}
use Rattle.ps_text.specs.Cursors.{next_byte, stream_offset}
use Rattle.ps_circuit.specs.Drafts.{name_bytes}
use Rattle.ps_text.specs.Bytes.{Seen}
use Rattle.ps_circuit.specs.Texts.{NamesData, comment}

abbrev pub names_data : Names → NamesData
names_data n =
    record {
      inputs = map name_bytes n.inputs.items;
      latches = map name_bytes n.latches.items;
      outputs = map name_bytes n.outputs.items;
    }

-- the lists of optional names for inputs, latches and outputs have the given lengths, and their names are valid
pub record AreNames (n : Names) (inputs latches outputs : ℕ) : Type 0 where
  pub inputs_each : vec_len n.inputs ≡ inputs
  pub latches_each : vec_len n.latches ≡ latches
  pub outputs_each : vec_len n.outputs ≡ outputs
  pub inputs_named : All IsSymbolName (map name_bytes n.inputs.items)
  pub latches_named : All IsSymbolName (map name_bytes n.latches.items)
  pub outputs_named : All IsSymbolName (map name_bytes n.outputs.items)

-- no input, latch or output has a name
pub record AreNone (names : NamesData) (inputs latches outputs : ℕ) : Type 0 where
  pub inputs_none : names.inputs ≡ replicate inputs None
  pub latches_none : names.latches ≡ replicate latches None
  pub outputs_none : names.outputs ≡ replicate outputs None

-- the byte is `i`, `l` or `o`, with which a line of the symbol table begins
abbrev pub is_kind : Option ℕ → Bool
is_kind None = false
is_kind (Some b) = (b == 105) || (b == 108) || (b == 111)

-- either the parser skipped the rest of the text after the symbol table, or the next byte does not begin a comment,
-- which is an error
abbrev pub TellsComment : Stream Seen → Result (Unit {0}) AigFault → Stream Seen → Type 0
TellsComment old (Ok u) new = Reads comment old tt new × (new.pieces ≡ [])
TellsComment old (Err e) new = (b : ℕ) × (next_byte old ≡ Some b) × (b ≡ 99 → ⊥) × (e ≡ Text Syntax (stream_offset old))
