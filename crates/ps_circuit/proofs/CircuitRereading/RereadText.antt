-- Lemmas about parsing the text that is written for a circuit, which gives the same circuit.
-- - `reread_text`: parsing the whole written text gives the circuit's parts, and nothing remains
-- - `text_ends`: the last byte of the written text is a newline
-- - `reads_again`: the answer to the written text is the circuit for which it was written
use Rattle.std.proofs.Common.{◌≡◌, ℕ, ◌+◌, ◌^◌, ◌<◌, ◌⊎◌, Bool, true, if◌then◌else◌, List, [], ◌∷◌, ◌++◌, length}
use Rattle.std.proofs.Common.{get_or, map, Option, None, Some, All, Contains, Ok, refl, sym, ap, subst, inl, inr, rules}
use Rattle.std.proofs.Common.{◌∙◌, arith, append_assoc, append-nil}
use Rattle.std.specs.Prelude.{decimal}
use Rattle.std.proofs.lemmas.List.{length-map, get_or-map}
use Rattle.ps_text.specs.Answers.{signs}
use Rattle.ps_text.specs.Parts.{many, PartAnswers, IsRead}
use Rattle.ps_text.proofs.ParsedAnswers.Whole.{answers_ok}
use Rattle.ps_circuit.specs.declared.number.Number.{Number}
use Rattle.ps_circuit.specs.declared.parts.Latch.{Latch}
use Rattle.ps_circuit.specs.declared.parts.Gate.{Gate}
use Rattle.ps_circuit.specs.Circuits.{CircuitData, definitions, readings, IsCircuit}
use Rattle.ps_circuit.specs.Literals.{variable}
use Rattle.ps_text.specs.Bytes.{stream_of, ends_line, with_newline, pieces_at}
use Rattle.ps_circuit.specs.Signs.{aig_causes}
use Rattle.ps_circuit.specs.Texts.{Lines, no_lines, OfInput, OfLatch, OfOutput, NamesData, no_names, symbol_line}
use Rattle.ps_circuit.specs.Texts.{DraftData, draft_of, symbols, body, circuit_text, IsDefined, ReadsCircuit, meaning}
use Rattle.ps_circuit.specs.Written.{line, symbol_line as symbol_line_of, header_line, literal_lines, latch_lines}
use Rattle.ps_circuit.specs.Written.{gate_lines, symbol_lines, text_of}
use Rattle.ps_circuit.proofs.ReadCircuits.CircuitTextLaws.{laws_text, first_names, chain_text, chain_inputs}
use Rattle.ps_circuit.proofs.ReadCircuits.CircuitTextLaws.{chain_latches}
use Rattle.ps_circuit.proofs.ReadCircuits.CircuitTextLaws.{chain_outputs}
use Rattle.ps_circuit.proofs.ReadCircuits.CircuitTextLaws.{chain_gates, chain_symbols}
use Rattle.ps_circuit.proofs.ReadCircuits.Adding.{values}
use Rattle.ps_circuit.proofs.CircuitRereading.RereadFields.{Rereads, Reread, reread_then, reread_mapped, reread_as}
use Rattle.ps_circuit.proofs.CircuitRereading.RereadLines.{IsWritable, header_data, reread_header}
use Rattle.ps_circuit.proofs.CircuitRereading.RereadCircuits.{InputsRead, LatchesRead, OutputsRead, GatesRead}
use Rattle.ps_circuit.proofs.CircuitRereading.RereadCircuits.{reread_inputs}
use Rattle.ps_circuit.proofs.CircuitRereading.RereadCircuits.{reread_latches, reread_outputs, reread_gates}
use Rattle.ps_circuit.proofs.CircuitRereading.RereadNames.{reread_names, reread_no_names, reread_no_comment}

none_same : {A B : Type 0} (xs : List A) (ys : List B) → length xs ≡ length ys → no_names xs ≡ no_names ys
none_same [] [] e = refl
none_same [] (y ∷ ys) e = absurd (omega (arith, e))
none_same (x ∷ xs) [] e = absurd (omega (arith, e))
none_same (x ∷ xs) (y ∷ ys) e = ap (λ zs. None ∷ zs) (none_same xs ys (omega (arith, e)))

-- the result of parsing, before the last checks, is the circuit c, with its defined variables and its used literals
pub record IsDraftOf (c : CircuitData) (d : DraftData) : Type 0 where
  pub circuit : d.circuit ≡ c
  pub defined : d.defined ≡ map variable (definitions c)
  pub readings : values d.readings ≡ readings c

module _ {c : CircuitData} (w : IsWritable c) where
  abbrev all_names : NamesData
  all_names = record { inputs = c.input_names; latches = c.latch_names; outputs = c.output_names }

  abbrev names_text : List ℕ
  names_text = symbol_lines 105 0 c.input_names
      ++ (symbol_lines 108 0 c.latch_names ++ (symbol_lines 111 0 c.output_names ++ []))

  abbrev no_circuit_names : NamesData
  no_circuit_names =
      record { inputs = no_names c.input_names; latches = no_names c.latch_names; outputs = no_names c.output_names }

  reread_all_names : Rereads (many symbol_line no_circuit_names) (λ d. d ≡ all_names) names_text []
  reread_all_names =
      reread_names OfInput (λ d. d ≡ all_names) _ [] c.input_names [] 0 no_circuit_names refl refl
      w.draft.input_names (omega (arith, w.draft.inputs_named, w.inputs))
      (reread_names OfLatch (λ d. d ≡ all_names) _ [] c.latch_names [] 0
      (record { inputs = c.input_names; latches = no_names c.latch_names; outputs = no_names c.output_names }) refl
      refl w.draft.latch_names (omega (arith, w.draft.latches_named, w.latches))
      (reread_names OfOutput (λ d. d ≡ all_names) [] [] c.output_names [] 0
      (record { inputs = c.input_names; latches = c.latch_names; outputs = no_names c.output_names }) refl refl
      w.draft.output_names (omega (arith, w.draft.outputs_named, w.outputs)) (reread_no_names all_names)))

  module _ {i : Lines ℕ} {l : Lines Latch} {o : Lines ℕ} {a : Lines Gate} (ih : InputsRead c i)
      (lh : LatchesRead c l) (oh : OutputsRead c o) (ah : GatesRead c a) where
    draft_is : {names : NamesData} → names ≡ all_names → IsDraftOf c (draft_of c.most i l o a names)
    draft_is {names} e = search rules

    first_names_are : first_names c.most i l o a ≡ no_circuit_names
    first_names_are = search (rules, none_same)

    reread_symbols : Rereads (symbols c.most i l o a) (IsDraftOf c) names_text []
    unfolding symbols
    reread_symbols = reread_then (chain_symbols c.most i l o a)
        (subst (λ z. Rereads (many symbol_line z) (λ d. d ≡ all_names) names_text []) (sym first_names_are)
        reread_all_names) (λ names h. grind (arith, reread_mapped, reread_no_comment, draft_is))

  abbrev body_text : List ℕ
  body_text = literal_lines c.inputs
      ++ (latch_lines c.latches ++ (literal_lines c.outputs ++ (gate_lines c.gates ++ names_text)))

  reread_body : Rereads (body (header_data c)) (IsDraftOf c) body_text []
  unfolding body
  reread_body = reread_then (chain_inputs (header_data c) no_lines) (reread_inputs w.draft)
      (λ i ih. reread_then (chain_latches (header_data c) i) (reread_latches w.draft ih)
      (λ l lh. reread_then (chain_outputs (header_data c) i l) (reread_outputs w.draft lh) (λ o oh. reread_then
      (chain_gates (header_data c) i l o) (reread_gates w.draft oh) (λ a ah. reread_symbols ih lh oh ah))))

  reread_text : Rereads circuit_text (IsDraftOf c) (text_of c) []
  unfolding circuit_text
  reread_text = reread_as text_is
      (reread_then chain_text (reread_header c w body_text) (λ h g. search (rules, Rereads, reread_body)))
    where
      text_is : text_of c ≡ header_line c ++ body_text
      text_is = grind (arith, regroup)
        where
          regroup : (h a b c d e f g : List ℕ) → ((((((h ++ a) ++ b) ++ c) ++ d) ++ e) ++ f) ++ g ≡ h ++
              (a ++ (b ++ (c ++ (d ++ (e ++ (f ++ (g ++ [])))))))
          regroup h a b c d e f g = simp (append_assoc, append-nil)

-- ## The last line ends with a newline

ends_newline : (xs : List ℕ) → ends_line (xs ++ 10 ∷ []) ≡ true
ends_newline [] = refl
ends_newline (x ∷ []) = refl
ends_newline (x ∷ y ∷ xs) = ends_newline (y ∷ xs)

ends_behind : (xs ys : List ℕ) → ends_line ys ≡ true → ends_line (xs ++ ys) ≡ true
ends_behind [] ys h = h
ends_behind (x ∷ []) [] h = absurd cc
ends_behind (x ∷ []) (y ∷ ys) h = h
ends_behind (x ∷ z ∷ xs) ys h = ends_behind (z ∷ xs) ys h

-- the text is empty, or its last byte is a newline
abbrev AreLines : List ℕ → Type 0
AreLines xs = (xs ≡ []) ⊎ (ends_line xs ≡ true)

ends_more : (xs : List ℕ) {ys : List ℕ} → ends_line xs ≡ true → AreLines ys → ends_line (xs ++ ys) ≡ true
ends_more xs h k = search (rules, ends_behind)

literal_lines_end : (xs : List ℕ) → AreLines (literal_lines xs)
literal_lines_end [] = inl refl
literal_lines_end (x ∷ xs) = inr (ends_more (line x []) (ends_newline (decimal x ++ [])) (literal_lines_end xs))

latch_lines_end : (xs : List Latch) → AreLines (latch_lines xs)
latch_lines_end [] = inl refl
latch_lines_end (x ∷ xs) = search (rules, ends_more, ends_newline, latch_lines_end xs)

gate_lines_end : (xs : List Gate) → AreLines (gate_lines xs)
gate_lines_end [] = inl refl
gate_lines_end (x ∷ xs) = search (rules, ends_more, ends_newline, gate_lines_end xs)

symbol_lines_end : (letter k : ℕ) (ns : List (Option (List ℕ))) → AreLines (symbol_lines letter k ns)
symbol_lines_end letter k [] = inl refl
symbol_lines_end letter k (None ∷ ns) = symbol_lines_end letter (k + 1) ns
symbol_lines_end letter k (Some name ∷ ns) = inr (ends_more (symbol_line_of letter k (Some name))
    (ends_newline ((letter ∷ decimal k) ++ (32 ∷ name))) (symbol_lines_end letter (k + 1) ns))

three_end : (x : List ℕ) {a b c : List ℕ} → ends_line x ≡ true → AreLines a → AreLines b → AreLines c →
    ends_line (((x ++ a) ++ b) ++ c) ≡ true
three_end x {a} {b} h i j k = ends_more ((x ++ a) ++ b) (ends_more (x ++ a) (ends_more x h i) j) k

text_ends : (c : CircuitData) → ends_line (text_of c) ≡ true
text_ends c = search (
  rules,
  three_end,
  symbol_lines_end,
  ends_newline,
  ends_more,
  literal_lines_end,
  latch_lines_end,
  gate_lines_end,
)

-- ## The circuit is parsed again

known_numbers : (defined : List ℕ) {literals : List ℕ} (numbers : List Number) → values numbers ≡ literals →
    All (λ x. (variable x ≡ 0) ⊎ Contains defined (variable x)) literals → All (IsDefined defined) numbers
known_numbers defined numbers e h k d l = subst (λ x. (variable x ≡ 0) ⊎ Contains defined (variable x))
    (ap (λ z. get_or z k d.value) (sym e) ∙ get_or-map (λ n. n.value) numbers k d d.value l) (grind (arith, length-map))

pub reads_again : {c : CircuitData} → IsCircuit c → length c.inputs < 2 ^ 64 → length c.latches < 2 ^ 64 →
    length c.outputs < 2 ^ 64 → length c.gates < 2 ^ 64 → ReadsCircuit (text_of c) (Ok c)
reads_again {c} circuit i l o a = meaning d answers known (search (rules, circuit.acyclic)) (ap Ok (sym is.circuit))
  where
    again : Reread circuit_text (IsDraftOf c) (text_of c) [] (length (text_of c)) 0
    again = (reread_text (record { draft = circuit.draft; inputs = i; latches = l; outputs = o; gates = a })).there
        (length (text_of c)) 0

    d : DraftData
    d = again.value

    is : IsDraftOf c d
    is = again.good

    closes : with_newline (text_of c) ≡ text_of c
    closes = ap (λ (b : Bool). if b then text_of c else text_of c ++ 10 ∷ []) (text_ends c)

    answers : PartAnswers aig_causes circuit_text (stream_of (text_of c)) (Ok d)
    answers = answers_ok laws_text.laws (stream_of (text_of c)) d
        (subst (λ z. IsRead circuit_text (signs (pieces_at 0 z)) d []) (sym closes) again.reads.1)

    known : All (IsDefined d.defined) d.readings
    known =
        known_numbers d.defined d.readings is.readings
        (subst (λ z. All (λ x. (variable x ≡ 0) ⊎ Contains z (variable x)) (readings c)) (sym is.defined)
        circuit.draft.known)
