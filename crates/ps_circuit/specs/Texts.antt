-- The grammar of the AIGER texts of circuits, and the errors that these texts can have.
-- ```text
-- aag M I L O A [B [C [J [F]]]]
-- I lines   lit
-- L lines   lit next [reset]
-- O lines   lit
-- A lines   lhs rhs0 rhs1
-- symbols   iK name | lK name | oK name
-- c         and then anything
-- ```
--
-- In an AIGER text, a gap is one or more spaces or tabs. Each field of a line of numbers, except the first, comes after
-- a gap, and such a line may end with a gap. Numbers in the text may be of any size and have leading zeros. The newline
-- at the end of the text may be missing. The text has as many lines of inputs, latches, outputs and gates as the
-- header's numbers I, L, O and A state, however large these numbers are. In the symbol table, a name comes after one
-- space, ends with the line, and has at least one byte.
-- - 61 (`Syntax`): a byte that is not allowed at its position, an early end, or a symbol for an input, latch or output
--   that does not exist or already has a name
-- - 62 (`Literal`): a literal above 2M + 1; an M of 2^31 or more; an input, latch or left side that is odd or 0; or a
--   reset above 1, except the latch's own literal
-- - 63 (`DefinedTwice`): an input, latch or left side whose variable was defined before
-- - 66 (`UnsetLatch`): a reset of a latch that is the latch's own literal
-- - 67 (`Sections`): a B, C, J or F in the header that is not 0
--
-- The literal of an input, of a latch or of a gate's left side must be even and at least 2, and a latch's reset must be
-- 0 or 1. The errors 62, 63, 66 and 67 are reported at the first digit of the wrong number. If a symbol's number causes
-- the error 61, it is reported at the symbol's letter. The first error in the order of the text is reported. If there
-- are several errors at the same offset, the error with the smallest number is reported. If a text has none of the
-- errors 61, 62, 63, 66 and 67, the errors 64 and 65 are checked, in this order:
-- - 64 (`Undefined`): the first literal that is used and whose variable is neither defined nor 0
-- - 65 (`Cyclic`): the line of the first gate that depends on itself
use Rattle.std.specs.Prelude.{◌≡◌, ◌≢◌, ℕ, zero, suc, ◌+◌, ◌*◌, ◌^◌, ◌<◌, ◌≤◌, ◌⊎◌, List, [], ◌∷◌, ◌++◌, Bool, false}
use Rattle.std.specs.Prelude.{map, codes, slice_get, slice_set, All, Contains, Option, Some, None, Result, Ok, Err}
use Rattle.std.specs.Prelude.{◌==◌, if◌then◌else◌}
use Rattle.ps_text.specs.Answers.{Found}
use Rattle.ps_text.specs.Parts.{PartAnswers, NoBad, give, one, then_by, either, times, many, mapped}
use Rattle.ps_text.specs.Digits.{decimal_value}
use Rattle.ps_components.specs.Graphs.{Way}
use Rattle.ps_components.specs.Orders.{IsFirstOnCycle}
use Rattle.ps_circuit.specs.Circuits.{CircuitData, IsDefinition, ReadsGate}
use Rattle.ps_circuit.specs.Literals.{variable}
use Rattle.ps_text.specs.Bytes.{Seen, stream_of, BeginsRun, is_digit, byte, word}
use Rattle.ps_circuit.specs.Signs.{aig_causes, Field, number, gap, rest_of_line, newline, line_end, more, by_more}
use Rattle.ps_circuit.specs.declared.number.Number.{Number}
use Rattle.ps_circuit.specs.declared.fault.AigCause.{AigCause}
use Rattle.ps_circuit.specs.declared.fault.AigCause.TheVariants.{Syntax, Literal, DefinedTwice, Undefined, Cyclic}
use Rattle.ps_circuit.specs.declared.fault.AigCause.TheVariants.{UnsetLatch, Sections}
use Rattle.ps_circuit.specs.Causes.{AigFault}
use Rattle.ps_text.specs.Faults.{UnlessMemory}
use Rattle.ps_circuit.specs.declared.parts.Latch.{Latch}
use Rattle.ps_circuit.specs.declared.parts.Gate.{Gate}

-- ## Numbers

abbrev pub AnyNumber : ℕ → AigCause → Type 0
AnyNumber n f = ⊥

abbrev pub WrongMost : ℕ → AigCause → Type 0
WrongMost n f = (2 ^ 31 ≤ n) × (f ≡ Literal)

abbrev pub WrongCount : ℕ → AigCause → Type 0
WrongCount n f = (n ≢ 0) × (f ≡ Sections)

abbrev pub WrongLiteral : ℕ → ℕ → AigCause → Type 0
WrongLiteral most n f = (2 * most + 1 < n) × (f ≡ Literal)

abbrev pub WrongDefinition : ℕ → List ℕ → ℕ → AigCause → Type 0
WrongDefinition most defined n f =
    ((¬ IsDefinition most n) × (f ≡ Literal)) ⊎ (Contains defined (variable n) × (f ≡ DefinedTwice))

abbrev pub WrongReset : ℕ → ℕ → AigCause → Type 0
WrongReset latch n f = ((n ≡ latch) × (f ≡ UnsetLatch)) ⊎ ((2 ≤ n) × (n ≢ latch) × (f ≡ Literal))

-- ## The first line

pub record HeaderData : Type 0 where
  pub most : ℕ
  pub inputs : ℕ
  pub latches : ℕ
  pub outputs : ℕ
  pub gates : ℕ

-- the end of the header: the sizes of up to n of the sections B, C, J and F, which must be 0, and the end of the line
unfoldable pub sections : ℕ → Field (Unit {0})
sections zero = line_end
sections (suc n) = then_by more (by_more (then_by (number WrongCount) (λ _. sections n)) (give tt))

-- the grammar of a gap and a number
unfoldable pub field : (ℕ → AigCause → Type 0) → Field Number
field Wrong = then_by gap (λ _. number Wrong)

unfoldable pub header : Field HeaderData
header =
    then_by (word (codes "aag")) (λ _. then_by (field WrongMost) (λ m.
    then_by (field AnyNumber) (λ i. then_by (field AnyNumber) (λ l.
    then_by (field AnyNumber) (λ o. then_by (field AnyNumber) (λ a.
    mapped (λ _. record { most = m.value; inputs = i.value; latches = l.value; outputs = o.value; gates = a.value })
    (sections 4)))))))

-- ## Number lines

-- what was read up to some line: the items of this line's kind (inputs, latches, outputs or gates), the variables
-- defined so far, the literals used so far, and the offset of each gate's line
pub record Lines (A : Type 0) : Type 0 where
  pub items : List A
  pub defined : List ℕ
  pub readings : List Number
  pub starts : List ℕ

-- `no_lines` is what was read before the first input line: nothing. `next_lines` is what was read before the first line
-- of the next kind: no items of that kind, but the variables, literals and offsets of all earlier lines.
abbrev pub no_lines : {A : Type 0} → Lines A
no_lines = record { items = []; defined = []; readings = []; starts = [] }

abbrev pub next_lines : {A B : Type 0} → Lines A → Lines B
next_lines c = record { items = []; defined = c.defined; readings = c.readings; starts = c.starts }

abbrev pub add_input : Lines ℕ → Number → Lines ℕ
add_input c l =
    record {
      items = c.items ++ l.value ∷ [];
      defined = c.defined ++ variable l.value ∷ [];
      readings = c.readings;
      starts = c.starts;
    }

abbrev pub add_latch : Lines Latch → Number → Number → Bool → Lines Latch
add_latch c l next reset = record {
  items = c.items ++ record { literal = l.value; next = next.value; reset = reset } ∷ [];
  defined = c.defined ++ variable l.value ∷ [];
  readings = c.readings ++ next ∷ [];
  starts = c.starts;
}

abbrev pub add_output : Lines ℕ → Number → Lines ℕ
add_output c l =
    record { items = c.items ++ l.value ∷ []; defined = c.defined; readings = c.readings ++ l ∷ []; starts = c.starts }

abbrev pub add_gate : Lines Gate → Number → Number → Number → Lines Gate
add_gate c l first second = record {
  items = c.items ++ record { literal = l.value; first = first.value; second = second.value } ∷ [];
  defined = c.defined ++ variable l.value ∷ [];
  readings = (c.readings ++ first ∷ []) ++ second ∷ [];
  starts = c.starts ++ l.offset ∷ [];
}

unfoldable pub input_line : ℕ → Lines ℕ → Field (Lines ℕ)
input_line most c = then_by (number (WrongDefinition most c.defined)) (λ l. mapped (λ _. add_input c l) line_end)

-- the optional reset of a latch, and the end of the line; the value is true if the reset is 1
unfoldable pub reset : ℕ → Field Bool
reset latch =
    then_by more (by_more (then_by (number (WrongReset latch)) (λ n. mapped (λ _. n.value == 1) line_end)) (give false))

unfoldable pub latch_line : ℕ → Lines Latch → Field (Lines Latch)
latch_line most c =
    then_by (number (WrongDefinition most c.defined)) (λ l. then_by (field (WrongLiteral most))
    (λ next. mapped (λ r. add_latch c l next r) (reset l.value)))

unfoldable pub output_line : ℕ → Lines ℕ → Field (Lines ℕ)
output_line most c = then_by (number (WrongLiteral most)) (λ l. mapped (λ _. add_output c l) line_end)

unfoldable pub gate_line : ℕ → Lines Gate → Field (Lines Gate)
gate_line most c =
    then_by (number (WrongDefinition most c.defined)) (λ l. then_by (field (WrongLiteral most))
    (λ first. then_by (field (WrongLiteral most)) (λ second.
    mapped (λ _. add_gate c l first second) line_end)))

-- ## Names

pub data Kind : Type 0 where
  OfInput : Kind
  OfLatch : Kind
  OfOutput : Kind

pub record NamesData : Type 0 where
  pub inputs : List (Option (List ℕ))
  pub latches : List (Option (List ℕ))
  pub outputs : List (Option (List ℕ))

abbrev pub no_names : {A : Type 0} → List A → List (Option (List ℕ))
no_names items = map (λ _. None) items

abbrev pub names_of : NamesData → Kind → List (Option (List ℕ))
names_of names OfInput = names.inputs
names_of names OfLatch = names.latches
names_of names OfOutput = names.outputs

abbrev pub put_names : NamesData → Kind → List (Option (List ℕ)) → NamesData
put_names names OfInput list = record { inputs = list; latches = names.latches; outputs = names.outputs }
put_names names OfLatch list = record { inputs = names.inputs; latches = list; outputs = names.outputs }
put_names names OfOutput list = record { inputs = names.inputs; latches = names.latches; outputs = list }

-- the names after one more was added, for the input, latch or output with the index k
abbrev pub add_name : NamesData → Kind → ℕ → List ℕ → NamesData
add_name names kind k name = put_names names kind (slice_set (names_of names kind) k (Some name))

-- the letters i, l and o, which stand for an input, a latch and an output
abbrev pub take_kind : Seen → Option Kind
take_kind s =
    if s.byte == 105 then Some OfInput else if s.byte == 108 then Some OfLatch else if s.byte == 111 then Some
    OfOutput else None

-- the letter of a symbol whose number is too large, or belongs to an input, latch or output that already has a name
pub record IsBadSymbol (names : NamesData) (s : Seen) (f : AigCause) : Type 0 where
  pub kind : Kind
  pub letter : take_kind s ≡ Some kind
  pub digits : List ℕ
  pub number : BeginsRun is_digit digits s.behind
  pub not_free : slice_get (names_of names kind) (decimal_value digits) ≢ Some None
  pub cause : f ≡ Syntax

unfoldable pub symbol_line : NamesData → Field NamesData
symbol_line names =
    then_by (one take_kind (IsBadSymbol names)) (λ kind. then_by (number AnyNumber) (λ k. then_by (byte 32) (λ _.
    then_by rest_of_line (λ name. mapped (λ _. add_name names kind k.value name) newline))))

-- any bytes
unfoldable pub anything : Field (Unit {0})
anything = many (λ _. one (λ s. Some tt) NoBad) tt

unfoldable pub comment : Field (Unit {0})
comment = either (then_by (byte 99) (λ _. anything)) (give tt)

-- ## The text

-- What was read of a text, before the last checks: its circuit, the defined variables and the used literals in text
-- order, and the offset of each gate's line.
pub record DraftData : Type 0 where
  pub circuit : CircuitData
  pub defined : List ℕ
  pub readings : List Number
  pub starts : List ℕ

abbrev pub draft_of : ℕ → Lines ℕ → Lines Latch → Lines ℕ → Lines Gate → NamesData → DraftData
draft_of most i l o a names = record {
  circuit = record {
    most = most;
    inputs = i.items;
    latches = l.items;
    outputs = o.items;
    gates = a.items;
    input_names = names.inputs;
    latch_names = names.latches;
    output_names = names.outputs;
  };
  defined = a.defined;
  readings = a.readings;
  starts = a.starts;
}

unfoldable pub symbols : ℕ → Lines ℕ → Lines Latch → Lines ℕ → Lines Gate → Field DraftData
symbols most i l o a =
    then_by (many symbol_line (record {
      inputs = no_names i.items;
      latches = no_names l.items;
      outputs = no_names o.items;
    })) (λ names.
    mapped (λ _. draft_of most i l o a names) comment)

unfoldable pub body : HeaderData → Field DraftData
body h =
    then_by (times h.inputs (input_line h.most) no_lines) (λ i.
    then_by (times h.latches (latch_line h.most) (next_lines i)) (λ l.
    then_by (times h.outputs (output_line h.most) (next_lines l)) (λ o.
    then_by (times h.gates (gate_line h.most) (next_lines o)) (λ a.
    symbols h.most i l o a))))

unfoldable pub circuit_text : Field DraftData
circuit_text = then_by header (λ h. body h)

-- ## The answer

-- the variable of the literal is 0, or is one of the defined variables
abbrev pub IsDefined : List ℕ → Number → Type 0
IsDefined defined l = (variable l.value ≡ 0) ⊎ Contains defined (variable l.value)

-- the first literal in the list whose variable is neither 0 nor defined
pub record IsFirstUndefined (defined : List ℕ) (readings : List Number) (l : Number) : Type 0 where
  pub before : List Number
  pub after : List Number
  pub split : readings ≡ before ++ l ∷ after
  pub before_defined : All (IsDefined defined) before
  pub not_defined : ¬ IsDefined defined l

-- the answer to an AIGER text: its circuit, or its first error
pub data ReadsCircuit (text : List ℕ) (answer : Result CircuitData (Found AigCause)) : Type 0 where
  refused : (found : Found AigCause) → PartAnswers aig_causes circuit_text (stream_of text) (Err found) →
      answer ≡ Err found → ReadsCircuit text answer
  undefined : (d : DraftData) (l : Number) → PartAnswers aig_causes circuit_text (stream_of text) (Ok d) →
      IsFirstUndefined d.defined d.readings l →
      answer ≡ Err (record { cause = Undefined; offset = l.offset }) → ReadsCircuit text answer
  cyclic : (d : DraftData) (i start : ℕ) → PartAnswers aig_causes circuit_text (stream_of text) (Ok d) →
      All (IsDefined d.defined) d.readings →
      IsFirstOnCycle (ReadsGate d.circuit.gates) i → slice_get d.starts i ≡ Some start →
      answer ≡ Err (record { cause = Cyclic; offset = start }) → ReadsCircuit text answer
  meaning : (d : DraftData) → PartAnswers aig_causes circuit_text (stream_of text) (Ok d) →
      All (IsDefined d.defined) d.readings →
      ((i : ℕ) → ¬ Way (ReadsGate d.circuit.gates) i i) → answer ≡ Ok d.circuit → ReadsCircuit text answer

-- what the parser of circuits returns: the answer to the text, or out of memory
abbrev pub IsCircuitAnswer : List ℕ → Result CircuitData AigFault → Type 0
IsCircuitAnswer text result = UnlessMemory (ReadsCircuit text) result
