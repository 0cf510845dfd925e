-- The contracts of the AIGER parser's private functions, in terms of what these functions have read.
-- - `lines_of items noted`: what was read up to some line: the items of this line's kind (inputs, latches, outputs or
--   gates), the defined variables, the used literals, and the offsets of the gates' lines
-- - `TellsField`, `TellsCount`, `TellsHeader`, `TellsDraft`: the function for a field, for a number of lines, for the
--   header or for the whole text parsed its part, or located the first error
-- - `TellsDefined`, `TellsCircuit`: the function that checks the used variables, or that makes the circuit of the
--   parsed parts, was successful or returned its fault
-- - `AddsInput`, `AddsLatch`, `AddsOutput`, `AddsGate`: one more line was read, of an input, a latch, an output or a
--   gate
-- - `IsRow line`: to read lines of one kind (of inputs, latches, outputs or gates) is to read one line, which has at
--   least one byte, and then the remaining lines
-- - `Grown Adds c d`: c is what was read up to some line, and d is what was read after any number of further lines
use Rattle.std.specs.Prelude.{◌≡◌, ◌≢◌, ℕ, ◌-◌, ◌<◌, ◌⊎◌, Bool, List, [], ◌∷◌, ◌++◌, slice_index_or, slice_get, length}
use Rattle.std.specs.Prelude.{map, All, AllPairs, Contains, Option, None, Some, Result, Ok, Err}
use Rattle.ps_text.specs.Answers.{Stream, Found}
use Rattle.ps_text.specs.Parts.{PartAnswers, times}
use Rattle.ps_text.specs.Readers.{Reads as ReadsPart, Stops, Parses}
use Rattle.ps_components.specs.Orders.{IsFirstOnCycle}
use Rattle.ps_circuit.specs.Circuits.{CircuitData, IsDefinition, IsDraft, IsMadeOf, ReadsGate}
use Rattle.ps_circuit.specs.Literals.{variable}
use Rattle.ps_circuit.specs.Drafts.{data_of}
use Rattle.ps_text.specs.Bytes.{Seen, stream_of}
use Rattle.ps_circuit.specs.Signs.{Field, aig_causes, gap}
use Rattle.ps_text.specs.Faults.{found_of}
use Rattle.ps_circuit.specs.Inner.Cursors.{saturated, NumberIs, TellsNumber}
use Rattle.ps_circuit.specs.Texts.{AnyNumber, HeaderData, header, field, Lines, add_input, add_latch, add_output}
use Rattle.ps_circuit.specs.Texts.{add_gate, DraftData, circuit_text, IsFirstUndefined, IsDefined}
use Rattle.ps_circuit.specs.declared.number.Number.{Number}
use Rattle.ps_circuit.specs.Causes.{AigFault}
use Rattle.ps_text.specs.declared.faults.Fault.TheVariants.{Text}
use Rattle.ps_circuit.specs.declared.fault.AigCause.{AigCause}
use Rattle.ps_circuit.specs.declared.fault.AigCause.TheVariants.{Cyclic, Undefined}
use Rattle.ps_circuit.specs.declared.parts.Latch.{Latch}
use Rattle.ps_circuit.specs.declared.parts.Gate.{Gate}
use Rattle.ps_circuit.specs.declared.sizes.Header.{Header}
use Rattle.ps_circuit.specs.declared.lines.Noted.{Noted}
use Rattle.ps_circuit.specs.declared.reader.Draft.{Draft}

-- No literal is negated, constant or too large, and `new` is `old` followed by the variables of the literals. If no
-- variable occurs twice in `old`, none occurs twice in `new`.
pub record Defines (most : ℕ) (old : List ℕ) (literals : List ℕ) (new : List ℕ) : Type 0 where
  pub variables : new ≡ old ++ map variable literals
  pub each : All (IsDefinition most) literals
  pub apart : AllPairs (λ v w. v ≢ w) old → AllPairs (λ v w. v ≢ w) new

-- a variable that the list doesn't have is appended to the list
pub record AddsVariable (old : List ℕ) (v : ℕ) (new : List ℕ) : Type 0 where
  pub behind : new ≡ old ++ v ∷ []
  pub fresh : (k d : ℕ) → k < length old → slice_index_or old k d ≢ v

-- the variable of the literal is 0 or is in the list `variables`
abbrev pub IsKnownIn : List ℕ → ℕ → Type 0
IsKnownIn variables literal = (variable literal ≡ 0) ⊎ Contains variables (variable literal)

-- ## The first line

abbrev pub TellsField : Stream Seen → Result Number AigFault → Stream Seen → Type 0
TellsField old (Ok n) new = (mid : Stream Seen) × ReadsPart gap old tt mid × NumberIs mid new n
TellsField old (Err e) new =
    Stops aig_causes gap old (found_of e) ⊎ ((mid : Stream Seen) × ReadsPart gap old tt mid ×
    TellsNumber mid (Err e) new)

abbrev pub TellsCount : Stream Seen → Result ℕ AigFault → Stream Seen → Type 0
TellsCount old (Ok n) new = (v : Number) × (n ≡ saturated v.value) × ReadsPart (field AnyNumber) old v new
TellsCount old (Err e) new = Stops aig_causes (field AnyNumber) old (found_of e)

pub record HeaderIs (h : Header) (d : HeaderData) : Type 0 where
  pub most : h.most ≡ d.most
  pub inputs : h.inputs ≡ saturated d.inputs
  pub latches : h.latches ≡ saturated d.latches
  pub outputs : h.outputs ≡ saturated d.outputs
  pub gates : h.gates ≡ saturated d.gates

abbrev pub TellsHeader : Stream Seen → Result Header AigFault → Stream Seen → Type 0
TellsHeader old (Ok h) new = (d : HeaderData) × HeaderIs h d × ReadsPart header old d new
TellsHeader old (Err e) new = Stops aig_causes header old (found_of e)

-- ## Number lines

abbrev pub lines_of : {A : Type 0} → List A → Noted → Lines A
lines_of items noted =
    record { items = items; defined = noted.variables; readings = noted.readings.items; starts = noted.starts.items }

-- a further line was read, of an input, a latch, an output or a gate; a variable that the line defines was not defined
-- before
pub record AddsInput (most : ℕ) (c d : Lines ℕ) : Type 0 where
  pub literal : Number
  pub is : d ≡ add_input c literal
  pub new : Defines most c.defined (literal.value ∷ []) d.defined

pub record AddsLatch (most : ℕ) (c d : Lines Latch) : Type 0 where
  pub literal : Number
  pub next : Number
  pub reset : Bool
  pub is : d ≡ add_latch c literal next reset
  pub new : Defines most c.defined (literal.value ∷ []) d.defined

pub record AddsOutput (c d : Lines ℕ) : Type 0 where
  pub literal : Number
  pub is : d ≡ add_output c literal

pub record AddsGate (most : ℕ) (c d : Lines Gate) : Type 0 where
  pub literal : Number
  pub first : Number
  pub second : Number
  pub is : d ≡ add_gate c literal first second
  pub new : Defines most c.defined (literal.value ∷ []) d.defined

-- lines of one kind are read one after another: reading a line moves past at least one byte, and the remaining lines
-- are read after this line
pub record IsRow {C : Type 0} (line : C → Field C) : Type 0 where
  pub takes : (c d : C) (old new : Stream Seen) → ReadsPart (line c) old d new → length new.pieces < length old.pieces
  pub goes_on : (n : ℕ) (c d : C) (old mid new : Stream Seen) (r : Result C (Option (Found AigCause))) → 0 < n →
      ReadsPart (line c) old d mid →
      Parses aig_causes (times (n - 1) line d) mid r new → Parses aig_causes (times n line c) old r new
  pub fails : (n : ℕ) (c : C) (old : Stream Seen) (o : Option (Found AigCause)) → 0 < n →
      Stops aig_causes (line c) old o → Stops aig_causes (times n line c) old o

pub data Grown {C : Type 0} (Adds : C → C → Type 0) (c : C) : C → Type 0 where
  none : Grown Adds c c
  more : {d e : C} → Grown Adds c d → Adds d e → Grown Adds c e

-- ## The text

-- If the variable of each used literal is defined, the parsed parts form a circuit, except that a gate may depend on
-- itself. The list `starts` has the offset of each gate's line.
pub record IsSoundDraft (d : DraftData) : Type 0 where
  pub draft : All (IsDefined d.defined) d.readings → IsDraft d.circuit
  pub starts : length d.starts ≡ length d.circuit.gates

abbrev pub draft_data : Draft → DraftData
draft_data d =
    record {
      circuit = data_of d.parts;
      defined = d.noted.variables;
      readings = d.noted.readings.items;
      starts = d.noted.starts.items;
    }

abbrev pub FoundAnswers : List ℕ → Option (Found AigCause) → Type 0
FoundAnswers text None = Unit {0}
FoundAnswers text (Some found) = PartAnswers aig_causes circuit_text (stream_of text) (Err found)

abbrev pub TellsDraft : List ℕ → Result Draft AigFault → Type 0
TellsDraft text (Ok d) = PartAnswers aig_causes circuit_text (stream_of text) (Ok (draft_data d))
TellsDraft text (Err e) = FoundAnswers text (found_of e)

-- the fault for the first used literal whose variable is neither 0 nor defined
abbrev pub TellsDefined : List ℕ → List Number → Result (Unit {0}) AigFault → Type 0
TellsDefined defined readings (Ok u) = All (IsDefined defined) readings
TellsDefined defined readings (Err e) =
    (l : Number) × (e ≡ Text Undefined l.offset) × IsFirstUndefined defined readings l

-- the fault for the first gate that depends on itself
abbrev pub TellsCyclic : List Gate → List ℕ → Option (Found AigCause) → Type 0
TellsCyclic gates starts None = Unit {0}
TellsCyclic gates starts (Some found) =
    (i : ℕ) × (found.cause ≡ Cyclic) × IsFirstOnCycle (ReadsGate gates) i × (slice_get starts i ≡ Some found.offset)

-- the parts of a circuit whose used variables are all defined, with the offset of each gate's line
pub record AreDefinedParts (parts : CircuitData) (offsets : List ℕ) : Type 0 where
  pub draft : IsDraft parts
  pub starts : length offsets ≡ length parts.gates

-- the circuit that has these parts, or the fault for the first gate that depends on itself
abbrev pub TellsCircuit : CircuitData → List ℕ → Result CircuitData AigFault → Type 0
TellsCircuit parts starts (Ok c) = IsMadeOf parts c
TellsCircuit parts starts (Err e) = TellsCyclic parts.gates starts (found_of e)
