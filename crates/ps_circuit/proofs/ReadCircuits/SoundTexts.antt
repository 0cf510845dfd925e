-- An AIGER text without errors describes a well-formed circuit.
-- - `safe_input`, `safe_latch`, `safe_output`, `safe_gate`: a line without an error adds the following to what was
--   read before: its input, latch, output or gate; any variable that it defines; and the literals that it uses
-- - `safe_names`, `safe_header`, `safe_body`: the names, the header, and the text after the header have well-formed
--   values
-- - `circuit_is_sound`: the lemma that proves the law `read_circuit_is_circuit`
use Rattle.std.proofs.Common.{◌≡◌, ◌≢◌, ℕ, ◌^◌, ◌<◌, List, [], ◌∷◌, ◌++◌, length, Option, None, Some}
use Rattle.std.proofs.Common.{All, append-nil, Ok, refl, sym, subst, inl, inr, ◌∙◌, rules}
use Rattle.std.specs.Prelude.{slice_set}
use Rattle.std.proofs.lemmas.Bool.{cases_lt}
use Rattle.std.proofs.lemmas.List.{length-map, length-set}
use Rattle.std.proofs.lemmas.List.Elements.{All-map, All-set}
use Rattle.ps_text.specs.Bytes.{with_newline, stream_of}
use Rattle.ps_text.specs.Parts.{PartAnswers, by_part}
use Rattle.ps_circuit.specs.declared.fault.AigCause.TheVariants.{Literal, DefinedTwice}
use Rattle.ps_circuit.specs.declared.number.Number.{Number}
use Rattle.ps_circuit.specs.declared.parts.Gate.{Gate}
use Rattle.ps_circuit.specs.declared.parts.Latch.{Latch}
use Rattle.ps_circuit.specs.Circuits.{CircuitData, IsCircuit, IsSymbolName}
use Rattle.ps_circuit.specs.Literals.{variable}
use Rattle.ps_circuit.specs.Signs.{aig_causes, rest_of_line}
use Rattle.ps_circuit.specs.Texts.{HeaderData, header, Lines, no_lines, next_lines, add_input, add_latch, add_output}
use Rattle.ps_circuit.specs.Texts.{add_gate, input_line, latch_line, output_line, gate_line, WrongDefinition, WrongMost}
use Rattle.ps_circuit.specs.Texts.{Kind, OfInput, OfLatch, OfOutput, NamesData, no_names, add_name, symbol_line}
use Rattle.ps_circuit.specs.Texts.{symbols}
use Rattle.ps_circuit.specs.Texts.{body, DraftData, draft_of, circuit_text, ReadsCircuit, refused, undefined, cyclic}
use Rattle.ps_circuit.specs.Texts.{meaning}
use Rattle.ps_circuit.specs.Inner.Reading.{Defines, AddsInput, AddsLatch, AddsOutput, AddsGate, IsSoundDraft}
use Rattle.ps_circuit.proofs.ReadCircuits.DraftLemmas.{gates_placed, sound_draft}
use Rattle.ps_circuit.proofs.ReadCircuits.Judges.{decide_definition}
use Rattle.ps_circuit.proofs.ReadCircuits.ReadingLemmas.{adds_variable, defines_one}
use Rattle.ps_circuit.proofs.ReadCircuits.SoundParts.{Safe, IsRight, Placed, followed_field, followed_number}
use Rattle.ps_circuit.proofs.ReadCircuits.SoundParts.{placed_pieces}
use Rattle.ps_circuit.proofs.ReadCircuits.SoundParts.{safe_any}
use Rattle.ps_circuit.proofs.ReadCircuits.SoundParts.{safe_before, safe_many, safe_mapped, safe_then, safe_times}
use Rattle.ps_circuit.proofs.ReadCircuits.SymbolLemmas.{all_plain}
use Rattle.ps_circuit.proofs.ReadCircuits.CircuitTextLaws.{chain_1, chain_first, chain_next, laws_ended}

-- ## Lines

-- if a defining literal has no error, the variable that it defines was not defined before
defines_right : (most : ℕ) (defined : List ℕ) (l : Number) → IsRight (WrongDefinition most defined) l →
    Defines most defined (l.value ∷ []) (defined ++ variable l.value ∷ [])
defines_right most defined l right = elim (decide_definition most l.value) [
  | inl is ↦ defines_one l.value is (adds_variable refl (λ twice. right DefinedTwice (inr (twice, refl))))
  | inr other ↦ absurd (right Literal (inl (other, refl)))
]

module _ (most : ℕ) where
  safe_input : (c : Lines ℕ) → Safe (input_line most c) (AddsInput most c)
  unfolding input_line
  safe_input c = safe_before (followed_number (WrongDefinition most c.defined)) (λ l. laws_ended (add_input c l))
      (λ l right. safe_mapped (λ _. add_input c l)
      (λ _ _. record { literal = l; is = refl; new = defines_right most c.defined l right }) safe_any)

  safe_latch : (c : Lines Latch) → Safe (latch_line most c) (AddsLatch most c)
  unfolding latch_line
  safe_latch c = safe_before (followed_number (WrongDefinition most c.defined)) (λ l. (chain_next most c l).whole)
      (λ l right. safe_then safe_any (λ next _. safe_mapped (λ r. add_latch c l next r)
      (λ r _. record {
        literal = l;
        next = next;
        reset = r;
        is = refl;
        new = defines_right most c.defined l right;
      }) safe_any))

  safe_output : (c : Lines ℕ) → Safe (output_line most c) (AddsOutput c)
  unfolding output_line
  safe_output c = safe_then safe_any (λ l _. safe_mapped (λ _. add_output c l)
      (λ _ _. record { literal = l; is = refl }) safe_any)

  safe_gate : (c : Lines Gate) → Safe (gate_line most c) (AddsGate most c)
  unfolding gate_line
  safe_gate c = safe_before (followed_number (WrongDefinition most c.defined)) (λ l. (chain_first most c l).whole)
      (λ l right. safe_then safe_any (λ first _. safe_then safe_any (λ second _. safe_mapped
      (λ _. add_gate c l first second) (λ _ _. record {
        literal = l;
        first = first;
        second = second;
        is = refl;
        new = defines_right most c.defined l right;
      }) safe_any)))

-- ## Names

-- the optional names of all inputs, latches or outputs: `count` of them, and each name has at least one byte and no
-- newline
pub record AreNames (count : ℕ) (names : List (Option (List ℕ))) : Type 0 where
  pub count_is : length names ≡ count
  pub each : All IsSymbolName names

pub record AreAllNames (i l o : ℕ) (names : NamesData) : Type 0 where
  pub inputs : AreNames i names.inputs
  pub latches : AreNames l names.latches
  pub outputs : AreNames o names.outputs

abbrev IsPlain : List ℕ → Type 0
IsPlain name = (0 < length name) × All (λ b. b ≢ 10) name

safe_rest : Safe rest_of_line IsPlain
unfolding rest_of_line
safe_rest = record {
  good = λ text rest v placed h q. subst IsPlain (sym h.value) (search (rules, length-map, all_plain));
}

names_set : {count : ℕ} (names : List (Option (List ℕ))) (k : ℕ) (name : List ℕ) → AreNames count names →
    IsPlain name → AreNames count (slice_set names k (Some name))
names_set names k name are plain = record {
  count_is = length-set names k (Some name) ∙ are.count_is;
  each = All-set IsSymbolName names k (Some name) plain are.each;
}

name_added : {i l o : ℕ} (names : NamesData) (kind : Kind) (k : ℕ) (name : List ℕ) → AreAllNames i l o names →
    IsPlain name → AreAllNames i l o (add_name names kind k name)
name_added names OfInput k name are plain = record {
  inputs = names_set names.inputs k name are.inputs plain;
  latches = are.latches;
  outputs = are.outputs;
}
name_added names OfLatch k name are plain = record {
  inputs = are.inputs;
  latches = names_set names.latches k name are.latches plain;
  outputs = are.outputs;
}
name_added names OfOutput k name are plain = record {
  inputs = are.inputs;
  latches = are.latches;
  outputs = names_set names.outputs k name are.outputs plain;
}

safe_symbol : {i l o : ℕ} (names : NamesData) → AreAllNames i l o names →
    Safe (symbol_line names) (AreAllNames i l o)
unfolding symbol_line
safe_symbol names are = safe_then safe_any (λ kind _. safe_then safe_any (λ k _. safe_then safe_any (λ _ _. safe_then
    safe_rest (λ name plain. safe_mapped (λ _. add_name names kind k.value name)
    (λ _ _. name_added names kind k.value name are plain) safe_any))))

-- a list in which all names are missing is a valid list of names
none_named : {A : Type 0} (items : List A) → AreNames (length items) (no_names items)
none_named items =
    record { count_is = length-map items (λ _. None); each = All-map IsSymbolName (λ _. None) items (λ k d l. tt) }

-- ## The text

safe_header : Safe header (λ h. h.most < 2 ^ 31)
unfolding header
safe_header = safe_then safe_any (λ _ _. safe_before (followed_field WrongMost) (λ m. (chain_1 m).whole)
    (λ m right. safe_then safe_any (λ i _. safe_then safe_any (λ l _. safe_then safe_any (λ o _. safe_then safe_any
    (λ a _. safe_mapped _ (λ _ _. small m right) safe_any))))))
  where
    small : (m : Number) → IsRight WrongMost m → m.value < 2 ^ 31
    small m right = elim (cases_lt m.value (2 ^ 31)) [
      | inl less ↦ less
      | inr more ↦ absurd (right Literal (more, refl))
    ]

-- if the offset of each gate's line is recorded, `IsSoundDraft` holds: if all used literals are defined, the parsed
-- parts form a circuit, except that a gate may depend on itself
abbrev IsSoundIfPlaced : DraftData → Type 0
IsSoundIfPlaced d = length d.starts ≡ length d.circuit.gates → IsSoundDraft d

safe_body : (h : HeaderData) → h.most < 2 ^ 31 → Safe (body h) IsSoundIfPlaced
unfolding body symbols
safe_body h limit = safe_then (safe_times (input_line h.most) _ (safe_input h.most) h.inputs no_lines)
    (λ i gi. safe_then (safe_times (latch_line h.most) _ (safe_latch h.most) h.latches (next_lines i))
    (λ l gl. safe_then (safe_times (output_line h.most) _ (safe_output h.most) h.outputs (next_lines l))
    (λ o go. safe_then (safe_times (gate_line h.most) _ (safe_gate h.most) h.gates (next_lines o))
    (λ a ga. safe_then (safe_many symbol_line safe_symbol _ (record {
      inputs = none_named i.items;
      latches = none_named l.items;
      outputs = none_named o.items;
    })) (λ names are. safe_mapped (λ _. draft_of h.most i l o a names)
    (λ _ _ placed. sound_draft h.most names limit placed gi gl go ga are.inputs.count_is are.latches.count_is
    are.outputs.count_is are.inputs.each are.latches.each are.outputs.each) safe_any)))))

safe_text : Safe circuit_text IsSoundIfPlaced
unfolding circuit_text
safe_text = safe_then safe_header (λ h limit. safe_body h limit)

text_sound : (text : List ℕ) (d : DraftData) → PartAnswers aig_causes circuit_text (stream_of text) (Ok d) →
    IsSoundDraft d
text_sound text d answers =
    safe_text.good _ [] d (subst Placed (sym (append-nil _)) (placed_pieces 0 (with_newline text))) answers.0
    (λ front back t f e c. answers.1 front (t ∷ back) f e (by_part t refl c)) (gates_placed _ d answers.0)

pub circuit_is_sound : (text : List ℕ) (c : CircuitData) → ReadsCircuit text (Ok c) → IsCircuit c
circuit_is_sound text c (refused found answers e) = absurd (search rules)
circuit_is_sound text c (undefined d l answers first e) = absurd (search rules)
circuit_is_sound text c (cyclic d i start answers known first at e) = absurd (search rules)
circuit_is_sound text c (meaning d answers known acyclic e) =
    let is : d.circuit ≡ c = search rules in
    subst IsCircuit is (record { draft = (text_sound text d answers).draft known; acyclic = acyclic })
