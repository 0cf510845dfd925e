-- Lemmas about parsing the first line, and the line of each input, latch, output or gate, in the text of a written
-- circuit.
-- - `IsWritable`: a well-formed circuit that may have cycles, with fewer than 2^64 inputs, latches, outputs and gates
-- - `reread_header`: parsing the first line gives the numbers that were written
-- - `IsNew kind most d x`: the input, latch, output or gate x can follow the lines d without an error, if `most` is the
--   greatest variable
-- - `reread_input`, `reread_latch`, `reread_output`, `reread_gate`: parsing a line of each kind gives the item that was
--   written
use Rattle.std.proofs.Common.{◌≡◌, ℕ, ◌^◌, ◌<◌, ◌≤◌, Bool, true, false, if◌then◌else◌, List, [], ◌∷◌, ◌++◌, rules}
use Rattle.std.proofs.Common.{length, refl, sym, subst, arith, append_assoc}
use Rattle.std.specs.Prelude.{codes, decimal, All}
use Rattle.std.proofs.lemmas.Bool.{eq-eqb}
use Rattle.ps_text.specs.Parts.{give}
use Rattle.ps_text.specs.Runs.{StopsBefore}
use Rattle.ps_circuit.specs.declared.fault.AigCause.{AigCause}
use Rattle.ps_circuit.specs.declared.parts.Latch.{Latch}
use Rattle.ps_circuit.specs.declared.parts.Gate.{Gate}
use Rattle.ps_circuit.specs.Circuits.{CircuitData, IsDraft}
use Rattle.ps_text.specs.Bytes.{is_digit}
use Rattle.ps_circuit.specs.Signs.{by_more}
use Rattle.ps_circuit.specs.Texts.{HeaderData, AnyNumber, WrongLiteral, WrongDefinition, WrongReset, sections, header}
use Rattle.ps_circuit.specs.Texts.{Lines, add_input, add_latch, add_output, add_gate, input_line, reset, latch_line}
use Rattle.ps_circuit.specs.Texts.{output_line, gate_line}
use Rattle.ps_circuit.specs.Written.{header_line, fields, line, latch_line as latch_line_of}
use Rattle.ps_circuit.proofs.ReadCircuits.Judges.{judge_any, judge_most, judge_literal}
use Rattle.ps_circuit.proofs.ReadCircuits.CircuitTextLaws.{header_of, chain_sections, chain_header, chain_0, chain_1}
use Rattle.ps_circuit.proofs.ReadCircuits.CircuitTextLaws.{chain_2, chain_3}
use Rattle.ps_circuit.proofs.ReadCircuits.CircuitTextLaws.{chain_4, is_one, chain_value, chain_reset, chain_input}
use Rattle.ps_circuit.proofs.ReadCircuits.CircuitTextLaws.{chain_output}
use Rattle.ps_circuit.proofs.ReadCircuits.CircuitTextLaws.{chain_latch, chain_next, chain_gate, chain_first}
use Rattle.ps_circuit.proofs.ReadCircuits.CircuitTextLaws.{chain_second}
use Rattle.ps_circuit.proofs.ReadCircuits.Adding.{LineKind, AddsItem, input_kind, latch_kind, output_kind, gate_kind}
use Rattle.ps_circuit.proofs.ReadCircuits.Adding.{adds_input}
use Rattle.ps_circuit.proofs.ReadCircuits.Adding.{adds_latch, adds_output, adds_gate}
use Rattle.ps_circuit.proofs.ReadCircuits.NumberLemmas.{section}
use Rattle.ps_circuit.proofs.ReadCircuits.LineLemmas.{reset_value}
use Rattle.ps_circuit.proofs.CircuitRereading.RereadFields.{Rereads, IsGood, reread_then, reread_mapped, reread_as}
use Rattle.ps_circuit.proofs.CircuitRereading.RereadFields.{reread_give, reread_word, number_then, field_then}
use Rattle.ps_circuit.proofs.CircuitRereading.RereadFields.{reread_end}
use Rattle.ps_circuit.proofs.CircuitRereading.RereadFields.{reread_more, reread_no_more}

-- ## The first line

abbrev pub field_text : ℕ → List ℕ → List ℕ
field_text n rest = 32 ∷ (decimal n ++ rest)

-- the circuit is well formed, but may have cycles; the number of its inputs is less than 2^64, and so is the number of
-- its latches, of its outputs and of its gates
pub record IsWritable (c : CircuitData) : Type 0 where
  pub draft : IsDraft c
  pub inputs : length c.inputs < 2 ^ 64
  pub latches : length c.latches < 2 ^ 64
  pub outputs : length c.outputs < 2 ^ 64
  pub gates : length c.gates < 2 ^ 64

abbrev pub header_data : CircuitData → HeaderData
header_data c = record {
  most = c.most;
  inputs = length c.inputs;
  latches = length c.latches;
  outputs = length c.outputs;
  gates = length c.gates;
}

reread_sections : {rest : List ℕ} → Rereads (sections 4) (λ u. u ≡ tt) (10 ∷ rest) rest
unfolding sections
reread_sections {rest} =
    reread_then (chain_sections 3) reread_no_more (λ b h. search (rules, Rereads, section, reread_give))

counted : {n : ℕ} → n < 2 ^ 64 → IsGood AnyNumber n
counted small = record { small = small; right = λ f x. x }

pub reread_header : (c : CircuitData) → IsWritable c → (rest : List ℕ) →
    Rereads header (λ h. h ≡ header_data c) (header_line c ++ rest) rest
unfolding header
reread_header c w rest = reread_as regrouped (reread_then chain_header (reread_word (codes "aag"))
    (λ _ _. field_then judge_most chain_0 c.most (search (rules, w.draft.limit)) refl
    (λ m gm. field_then judge_any (chain_1 m) (length c.inputs) (counted w.inputs) refl (λ i gi. field_then judge_any
    (chain_2 m i) (length c.latches) (counted w.latches) refl (λ l gl. field_then judge_any (chain_3 m i l)
    (length c.outputs) (counted w.outputs) refl (λ o go. field_then judge_any (chain_4 m i l o) (length c.gates)
    (counted w.gates) refl (λ a ga. reread_mapped (header_of m i l o a) reread_sections (λ u g. cc))))))))
  where
    regrouped : header_line c ++ rest ≡ codes "aag" ++ field_text c.most (field_text (length c.inputs) (field_text
        (length c.latches) (field_text (length c.outputs) (field_text (length c.gates) (10 ∷ rest)))))
    regrouped = simp append_assoc

-- ## The parts of a line

-- the text that has each of the given numbers after one space, and then the text `rest`
abbrev pub fields_text : List ℕ → List ℕ → List ℕ
fields_text [] rest = rest
fields_text (x ∷ xs) rest = field_text x (fields_text xs rest)

fields_is : (xs rest : List ℕ) → fields xs ++ rest ≡ fields_text xs rest
fields_is [] rest = refl
fields_is (x ∷ xs) rest = search (rules, append_assoc, fields_is xs rest)

line_is : (x : ℕ) (xs rest : List ℕ) → line x xs ++ rest ≡ decimal x ++ fields_text xs (10 ∷ rest)
line_is x xs rest = grind (arith, append_assoc, fields_is)

-- the text of a latch's reset value and of the end of the line; the reset value 0 is not written
abbrev reset_text : Bool → List ℕ → List ℕ
reset_text r rest = if r then 32 ∷ decimal 1 ++ 10 ∷ rest else 10 ∷ rest

latch_line_is : (x : Latch) (rest : List ℕ) → latch_line_of x ++ rest ≡ decimal x.literal ++
    field_text x.next (reset_text x.reset rest)
latch_line_is x rest = by x.reset
  where
    by : (r : Bool) → (if r then line x.literal (x.next ∷ 1 ∷ []) else line x.literal (x.next ∷ [])) ++
        rest ≡ decimal x.literal ++ field_text x.next (reset_text r rest)
    by true = line_is x.literal (x.next ∷ 1 ∷ []) rest
    by false = line_is x.literal (x.next ∷ []) rest

reset_stops : (r : Bool) (rest : List ℕ) → StopsBefore is_digit (reset_text r rest)
reset_stops r rest = search rules

reread_reset : (r : Bool) (latch : ℕ) {rest : List ℕ} → 2 ≤ latch →
    Rereads (reset latch) (λ b. b ≡ r) (reset_text r rest) rest
unfolding reset
reread_reset false latch {rest} two =
    reread_then (chain_reset latch) reread_no_more (λ b h. search (rules, Rereads, reset_value, reread_give))
reread_reset true latch {rest} two = reread_then (chain_reset latch) (reread_more 1 (10 ∷ rest) (omega arith)) (λ b h.
    subst (λ z. Rereads (by_more (reset_value latch) (give false) z) (λ b. b ≡ true) (decimal 1 ++ 10 ∷ rest) rest)
    (sym h) (number_then (chain_value latch) 1 (record { small = omega arith; right = good }) refl
    (λ n g. reread_mapped (is_one n) reread_end (λ _ _. eq-eqb n.value 1 g))))
  where
    good : (f : AigCause) → WrongReset latch 1 f → ⊥
    good f h = grind arith

-- ## Lines

-- The input, latch, output or gate x can follow the lines d without an error. If x is an input, a latch or a gate, its
-- own literal is not negated, constant or too large, and no earlier line defines the variable of this literal. The
-- literals that x uses are not too large.
pub record IsNew {X : Type 0} (kind : LineKind X) (most : ℕ) (d : Lines X) (x : X) : Type 0 where
  pub definitions : All (λ l. (2 ≤ l) × IsGood (WrongDefinition most d.defined) l) (kind.defines (x ∷ []))
  pub literals : All (IsGood (WrongLiteral most)) (kind.reads (x ∷ []))

module _ (most : ℕ) {rest : List ℕ} where
  pub reread_input : {Good : Lines ℕ → Type 0} (d : Lines ℕ) (x : ℕ) → IsNew input_kind most d x →
      ((e : Lines ℕ) → AddsItem input_kind d e x → Good e) → Rereads (input_line most d) Good (line x [] ++ rest) rest
  unfolding input_line
  reread_input d x n k = reread_as (line_is x [] rest)
      (number_then (chain_input most d) x (n.definitions 0 0 (omega arith)).1 refl
      (λ l g. reread_mapped (λ _. add_input d l) reread_end (λ _ _. k (add_input d l) (adds_input d l g))))

  pub reread_output : {Good : Lines ℕ → Type 0} (d : Lines ℕ) (x : ℕ) → IsNew output_kind most d x →
      ((e : Lines ℕ) → AddsItem output_kind d e x → Good e) → Rereads (output_line most d) Good (line x [] ++ rest) rest
  unfolding output_line
  reread_output d x n k = reread_as (line_is x [] rest) (number_then (chain_output most d) x (grind arith) refl
      (λ l g. reread_mapped (λ _. add_output d l) reread_end (λ _ _. k (add_output d l) (adds_output d l g))))

  pub reread_latch : {Good : Lines Latch → Type 0} (d : Lines Latch) (x : Latch) → IsNew latch_kind most d x →
      ((e : Lines Latch) → AddsItem latch_kind d e x → Good e) →
      Rereads (latch_line most d) Good (latch_line_of x ++ rest) rest
  unfolding latch_line
  reread_latch {Good} d x n k = let own = n.definitions 0 0 (omega arith) in
      reread_as (latch_line_is x rest) (number_then (chain_latch most d) x.literal own.1 refl (λ l g. field_then
      (judge_literal most) (chain_next most d l) x.next (n.literals 0 0 (omega arith)) (reset_stops x.reset rest)
      (λ m h. reread_mapped (λ b. add_latch d l m b) (reread_reset x.reset l.value (omega (arith, g, own.0)))
      (λ b i. subst (λ r. Good (add_latch d l m r)) (sym i) (k (add_latch d l m x.reset) (adds_latch d l m g h))))))

  pub reread_gate : {Good : Lines Gate → Type 0} (d : Lines Gate) (x : Gate) → IsNew gate_kind most d x →
      ((e : Lines Gate) → AddsItem gate_kind d e x → Good e) →
      Rereads (gate_line most d) Good (line x.literal (x.first ∷ x.second ∷ []) ++ rest) rest
  unfolding gate_line
  reread_gate d x n k = reread_as (line_is x.literal (x.first ∷ x.second ∷ []) rest)
      (number_then (chain_gate most d) x.literal (n.definitions 0 0 (omega arith)).1 refl (λ l g.
      field_then (judge_literal most) (chain_first most d l) x.first (n.literals 0 0 (omega arith)) refl (λ p h.
      field_then (judge_literal most) (chain_second most d l p) x.second (n.literals 1 0 (omega arith)) refl (λ q i.
      reread_mapped (λ _. add_gate d l p q) reread_end (λ _ _. k (add_gate d l p q) (adds_gate d l p q g h i))))))
