-- The parts of the AIGER grammar obey the grammar laws of the crate `ps_text`, which state the bytes that can begin a
-- part, and those that can continue it. The module SignLaws shows that the smallest parts of the AIGER grammar obey
-- these laws.
-- - `fields`: the grammar laws of the crate `ps_text` for a gap, a number, and the text after them
-- - `chain_..`: the grammar laws of the crate `ps_text` for one part of a grammar rule and what follows this part
use Rattle.std.proofs.Common.{◌≡◌, ℕ, zero, suc, Bool, false, eqb, List, Some, refl, inl, inr, rules}
use Rattle.std.specs.Prelude.{codes}
use Rattle.std.proofs.lemmas.Bool.{eqb-true}
use Rattle.ps_text.specs.Parts.{NoBad, one, then_by, times, many, mapped, give}
use Rattle.ps_text.proofs.ParsedAnswers.Decisions.{judge_none}
use Rattle.ps_text.proofs.Combinators.Laws.{Nothing}
use Rattle.ps_circuit.specs.declared.number.Number.{Number}
use Rattle.ps_circuit.specs.declared.fault.AigCause.{AigCause}
use Rattle.ps_circuit.specs.declared.parts.Latch.{Latch}
use Rattle.ps_circuit.specs.declared.parts.Gate.{Gate}
use Rattle.ps_circuit.specs.Causes.{cause_number}
use Rattle.ps_text.specs.Bytes.{Seen, byte, word}
use Rattle.ps_circuit.specs.Signs.{Field, number, gap, rest_of_line, newline, line_end, more, by_more}
use Rattle.ps_circuit.specs.Texts.{HeaderData, AnyNumber, WrongMost, WrongCount, WrongLiteral, WrongDefinition}
use Rattle.ps_circuit.specs.Texts.{WrongReset, sections, field, header, Lines, no_lines, next_lines, add_input}
use Rattle.ps_circuit.specs.Texts.{add_latch, add_output, add_gate, input_line, reset, latch_line, output_line}
use Rattle.ps_circuit.specs.Texts.{gate_line, Kind, OfInput, NamesData, no_names, add_name, take_kind, IsBadSymbol}
use Rattle.ps_circuit.specs.Texts.{symbol_line, anything, comment, DraftData, draft_of, symbols, body, circuit_text}
use Rattle.ps_circuit.proofs.ReadCircuits.Judges.{judge_any, judge_most, judge_count, judge_literal, judge_definition}
use Rattle.ps_circuit.proofs.ReadCircuits.Judges.{judge_reset}
use Rattle.ps_circuit.proofs.ReadCircuits.Judges.{judge_symbol}
use Rattle.ps_text.proofs.BytesAndDigits.Bytes.Lawful.{larger, chained, next, tight, given, mapped_by, or_nothing}
use Rattle.ps_text.proofs.BytesAndDigits.Bytes.Lawful.{many_of, one_sign}
use Rattle.ps_text.proofs.BytesAndDigits.Bytes.Lawful.{byte_of, word_of}
use Rattle.ps_circuit.proofs.ReadCircuits.CircuitParts.{Lawful, Chain, Judges}
use Rattle.ps_text.proofs.BytesAndDigits.Bytes.Single.{At, Any, seen}
use Rattle.ps_circuit.proofs.ReadCircuits.SignLaws.{AtDigit, AtInner, Separates, AtKind, AtTail, AtBody, inner_newline}
use Rattle.ps_circuit.proofs.ReadCircuits.SignLaws.{space_digit}
use Rattle.ps_circuit.proofs.ReadCircuits.SignLaws.{digit_separates, separates_digit, digit_space, separates_body}
use Rattle.ps_circuit.proofs.ReadCircuits.SignLaws.{kind_comment}
use Rattle.ps_circuit.proofs.ReadCircuits.SignLaws.{laws_number, laws_gap, laws_rest, laws_newline, laws_line_end}
use Rattle.ps_circuit.proofs.ReadCircuits.SignLaws.{numbers, optional}

-- ## The first line

pub chain_counted : (n : ℕ) → Lawful (sections n) Separates Separates ⊥ →
    Chain (number WrongCount) (λ _. sections n) AtDigit Separates ⊥
chain_counted n l = numbers judge_count (λ _. l)

pub laws_sections : (n : ℕ) → Lawful (sections n) Separates Separates ⊥
unfolding sections
laws_sections zero = laws_line_end
laws_sections (suc n) = (optional (chain_counted n (laws_sections n)).whole tt).whole

pub chain_sections : (n : ℕ) → Chain more (by_more (then_by (number WrongCount) (λ _. sections n)) (give tt)) Separates
    Separates ⊥
chain_sections n = optional (chain_counted n (laws_sections n)).whole tt

pub chain_field : {Wrong : ℕ → AigCause → Type 0} → Judges Wrong → Chain gap (λ _. number Wrong) Separates AtDigit ⊥
chain_field judge = chained laws_gap (λ _. laws_number judge) space_digit (λ t h. inl h) (λ t h. absurd h.0) (λ t h. h)
    (λ t h. absurd h.0) (λ n. n.0)

-- a gap, a number, and what follows the number obey the grammar laws of the crate `ps_text`
pub fields : {B : Type 0} {Q : Number → Field B} {Wrong : ℕ → AigCause → Type 0} {More : Seen → Type 0} →
    Judges Wrong → ((n : Number) → Lawful (Q n) Separates More ⊥) → Chain (field Wrong) Q Separates More ⊥
unfolding field
fields judge q = next (chain_field judge).whole q digit_separates

abbrev pub header_of : (m i l o a : Number) → Unit {0} → HeaderData
header_of m i l o a u =
    record { most = m.value; inputs = i.value; latches = l.value; outputs = o.value; gates = a.value }

abbrev pub header_5 : (m i l o a : Number) → Field HeaderData
header_5 m i l o a = mapped (header_of m i l o a) (sections 4)

abbrev pub header_4 : (m i l o : Number) → Field HeaderData
header_4 m i l o = then_by (field AnyNumber) (header_5 m i l o)

abbrev pub header_3 : (m i l : Number) → Field HeaderData
header_3 m i l = then_by (field AnyNumber) (header_4 m i l)

abbrev pub header_2 : (m i : Number) → Field HeaderData
header_2 m i = then_by (field AnyNumber) (header_3 m i)

abbrev pub header_1 : (m : Number) → Field HeaderData
header_1 m = then_by (field AnyNumber) (header_2 m)

abbrev pub header_0 : Field HeaderData
header_0 = then_by (field WrongMost) header_1

pub chain_4 : (m i l o : Number) → Chain (field AnyNumber) (header_5 m i l o) Separates Separates ⊥
chain_4 m i l o = fields judge_any (λ a. mapped_by (header_of m i l o a) (laws_sections 4))

pub chain_3 : (m i l : Number) → Chain (field AnyNumber) (header_4 m i l) Separates Separates ⊥
chain_3 m i l = fields judge_any (λ o. (chain_4 m i l o).whole)

pub chain_2 : (m i : Number) → Chain (field AnyNumber) (header_3 m i) Separates Separates ⊥
chain_2 m i = fields judge_any (λ l. (chain_3 m i l).whole)

pub chain_1 : (m : Number) → Chain (field AnyNumber) (header_2 m) Separates Separates ⊥
chain_1 m = fields judge_any (λ i. (chain_2 m i).whole)

pub chain_0 : Chain (field WrongMost) header_1 Separates Separates ⊥
chain_0 = fields judge_most (λ m. (chain_1 m).whole)

pub chain_header : Chain (word (codes "aag")) (λ _. header_0) Any Separates ⊥
chain_header = chained (word_of (codes "aag")) (λ _. chain_0.whole) (λ t h k. h) (λ t h. tt) (λ t h. tt) (λ t h. h)
    (λ t h. absurd h.0) (λ n. n.1)

-- ## Number lines

pub laws_ended : {V : Type 0} (v : V) → Lawful (mapped (λ _. v) line_end) Separates Separates ⊥
laws_ended v = mapped_by (λ _. v) laws_line_end

pub chain_input : (most : ℕ) (c : Lines ℕ) →
    Chain (number (WrongDefinition most c.defined)) (λ l. mapped (λ _. add_input c l) line_end) AtDigit Separates ⊥
chain_input most c = numbers (judge_definition most c.defined) (λ l. laws_ended (add_input c l))

pub laws_input_line : (most : ℕ) (c : Lines ℕ) → Lawful (input_line most c) AtDigit Separates ⊥
unfolding input_line
laws_input_line most c = (chain_input most c).whole

pub chain_output : (most : ℕ) (c : Lines ℕ) →
    Chain (number (WrongLiteral most)) (λ l. mapped (λ _. add_output c l) line_end) AtDigit Separates ⊥
chain_output most c = numbers (judge_literal most) (λ l. laws_ended (add_output c l))

pub laws_output_line : (most : ℕ) (c : Lines ℕ) → Lawful (output_line most c) AtDigit Separates ⊥
unfolding output_line
laws_output_line most c = (chain_output most c).whole

abbrev pub is_one : Number → Unit {0} → Bool
is_one n u = eqb n.value 1

pub chain_value : (latch : ℕ) → Chain (number (WrongReset latch)) (λ n. mapped (is_one n) line_end) AtDigit Separates ⊥
chain_value latch = numbers (judge_reset latch) (λ n. mapped_by (is_one n) laws_line_end)

pub chain_reset : (latch : ℕ) → Chain more (by_more (then_by (number (WrongReset latch))
    (λ n. mapped (is_one n) line_end)) (give false)) Separates Separates ⊥
chain_reset latch = optional (chain_value latch).whole false

pub laws_reset : (latch : ℕ) → Lawful (reset latch) Separates Separates ⊥
unfolding reset
laws_reset latch = (chain_reset latch).whole

abbrev pub latch_end : Lines Latch → Number → Number → Field (Lines Latch)
latch_end c l next = mapped (λ r. add_latch c l next r) (reset l.value)

abbrev pub latch_next : ℕ → Lines Latch → Number → Field (Lines Latch)
latch_next most c l = then_by (field (WrongLiteral most)) (latch_end c l)

pub chain_next : (most : ℕ) (c : Lines Latch) (l : Number) →
    Chain (field (WrongLiteral most)) (latch_end c l) Separates Separates ⊥
chain_next most c l = fields (judge_literal most) (λ n. mapped_by (λ r. add_latch c l n r) (laws_reset l.value))

pub chain_latch : (most : ℕ) (c : Lines Latch) →
    Chain (number (WrongDefinition most c.defined)) (latch_next most c) AtDigit Separates ⊥
chain_latch most c = numbers (judge_definition most c.defined) (λ l. (chain_next most c l).whole)

pub laws_latch_line : (most : ℕ) (c : Lines Latch) → Lawful (latch_line most c) AtDigit Separates ⊥
unfolding latch_line
laws_latch_line most c = (chain_latch most c).whole

abbrev pub gate_end : Lines Gate → Number → Number → Number → Field (Lines Gate)
gate_end c l first second = mapped (λ _. add_gate c l first second) line_end

abbrev pub gate_second : ℕ → Lines Gate → Number → Number → Field (Lines Gate)
gate_second most c l first = then_by (field (WrongLiteral most)) (gate_end c l first)

abbrev pub gate_first : ℕ → Lines Gate → Number → Field (Lines Gate)
gate_first most c l = then_by (field (WrongLiteral most)) (gate_second most c l)

pub chain_second : (most : ℕ) (c : Lines Gate) (l first : Number) →
    Chain (field (WrongLiteral most)) (gate_end c l first) Separates Separates ⊥
chain_second most c l first = fields (judge_literal most) (λ second. laws_ended (add_gate c l first second))

pub chain_first : (most : ℕ) (c : Lines Gate) (l : Number) →
    Chain (field (WrongLiteral most)) (gate_second most c l) Separates Separates ⊥
chain_first most c l = fields (judge_literal most) (λ first. (chain_second most c l first).whole)

pub chain_gate : (most : ℕ) (c : Lines Gate) →
    Chain (number (WrongDefinition most c.defined)) (gate_first most c) AtDigit Separates ⊥
chain_gate most c = numbers (judge_definition most c.defined) (λ l. (chain_first most c l).whole)

pub laws_gate_line : (most : ℕ) (c : Lines Gate) → Lawful (gate_line most c) AtDigit Separates ⊥
unfolding gate_line
laws_gate_line most c = (chain_gate most c).whole

-- a given number of lines of one kind obeys the grammar laws of the crate `ps_text`
module _ {C : Type 0} (item : C → Field C) (l : (c : C) → Lawful (item c) AtDigit Separates ⊥) where
  behind_line : (n : ℕ) (c : C) → ((d : C) → Lawful (times n item d) AtDigit Separates (Unit {0})) →
      Chain (item c) (times n item) AtDigit Separates (Unit {0})
  behind_line n c q = chained (l c) q separates_digit (λ t h. h) (λ t h. absurd h.0) (λ t h. h) (λ t h. h.1) (λ n. tt)

  laws_lines : (n : ℕ) (c : C) → Lawful (times n item c) AtDigit Separates (Unit {0})
  laws_lines zero c = larger (given c) (λ t h. absurd h) (λ t h. absurd h) (λ n. n)
  laws_lines (suc n) c = (behind_line n c (laws_lines n)).whole

  pub chain_lines : (n : ℕ) (c : C) → Chain (item c) (times n item) AtDigit Separates (Unit {0})
  chain_lines n c = behind_line n c (laws_lines n)

-- ## Names

kind_at : (s : Seen) {k : Kind} → take_kind s ≡ Some k → AtKind s
kind_at s {k} e = search (rules, AtKind, eqb-true)

abbrev pub letter : NamesData → Field Kind
letter names = one take_kind (IsBadSymbol names)

abbrev pub symbol_end : NamesData → Kind → Number → List ℕ → Field NamesData
symbol_end names kind k name = mapped (λ _. add_name names kind k.value name) newline

abbrev pub symbol_name : NamesData → Kind → Number → Field NamesData
symbol_name names kind k = then_by rest_of_line (symbol_end names kind k)

abbrev pub symbol_space : NamesData → Kind → Number → Field NamesData
symbol_space names kind k = then_by (byte 32) (λ _. symbol_name names kind k)

abbrev pub symbol_number : NamesData → Kind → Field NamesData
symbol_number names kind = then_by (number AnyNumber) (symbol_space names kind)

module _ (names : NamesData) where
  pub chain_name : (kind : Kind) (k : Number) → Chain rest_of_line (symbol_end names kind k) AtInner Nothing ⊥
  chain_name kind k = next laws_rest (λ name. search (rules, mapped_by, laws_newline)) inner_newline

  pub chain_space : (kind : Kind) (k : Number) → Chain (byte 32) (λ _. symbol_name names kind k) (At 32) Nothing ⊥
  chain_space kind k = tight (byte_of 32) (λ _. (chain_name kind k).whole)

  pub chain_number : (kind : Kind) → Chain (number AnyNumber) (symbol_space names kind) AtDigit Nothing ⊥
  chain_number kind = next (laws_number judge_any) (λ k. (chain_space kind k).whole) digit_space

  pub chain_letter : Chain (letter names) (symbol_number names) AtKind Nothing ⊥
  chain_letter = tight (one_sign take_kind (IsBadSymbol names) (seen 105) {v = OfInput} refl (judge_symbol names)
      (λ t h. kind_at t h.1) (λ t h. kind_at t h.1.letter)) (λ kind. (chain_number kind).whole)

  pub laws_symbol_line : Lawful (symbol_line names) AtKind Nothing ⊥
  unfolding symbol_line
  laws_symbol_line = chain_letter.whole

abbrev pub any_sign : Unit {0} → Field (Unit {0})
any_sign u = one (λ s. Some tt) NoBad

laws_anything : Lawful anything Any Any (Unit {0})
unfolding anything
laws_anything = many_of any_sign (λ u. one_sign (λ s. Some tt) NoBad (seen 0) {v = tt} refl
    (λ t. judge_none cause_number) (λ t h. tt) (λ t h. tt)) tt

pub chain_c_line : Chain (byte 99) (λ _. anything) (At 99) Any ⊥
chain_c_line = tight (byte_of 99) (λ _. laws_anything)

laws_comment : Lawful comment (At 99) Any (Unit {0})
unfolding comment
laws_comment = or_nothing tt chain_c_line.whole (λ t h. tt) (λ t h. tt)

-- ## The text

module _ (most : ℕ) (i : Lines ℕ) (l : Lines Latch) (o : Lines ℕ) (a : Lines Gate) where
  abbrev pub closing : NamesData → Field DraftData
  closing names = mapped (λ _. draft_of most i l o a names) comment

  abbrev pub first_names : NamesData
  first_names = record { inputs = no_names i.items; latches = no_names l.items; outputs = no_names o.items }

  pub chain_symbols : Chain (many symbol_line first_names) closing AtTail Any (Unit {0})
  chain_symbols = chained (many_of symbol_line laws_symbol_line first_names)
      (λ names. mapped_by (λ _. draft_of most i l o a names) laws_comment) kind_comment (λ t h. inl h)
      (λ t h. inr h.1) (λ t h. tt) (λ t h. tt) (λ n. tt)

  laws_symbols : Lawful (symbols most i l o a) AtBody Any (Unit {0})
  unfolding symbols
  laws_symbols = larger chain_symbols.whole (λ t h. inr h) (λ t h. h) (λ n. n)

with_lines : {C : Type 0} {item : C → Field C} → ((c : C) → Lawful (item c) AtDigit Separates ⊥) → (n : ℕ) (c : C)
    {Q : C → Field DraftData} {Null : Type 0} → ((d : C) → Lawful (Q d) AtBody Any Null) →
    Chain (times n item c) Q AtBody Any (Unit {0})
with_lines {item = item} l n c r = chained (laws_lines item l n c) r separates_body (λ t h. inl h) (λ t h. h.1)
    (λ t h. tt) (λ t h. tt) (λ n. tt)

module _ (h : HeaderData) where
  abbrev pub body_gates : Lines ℕ → Lines Latch → Lines ℕ → Field DraftData
  body_gates i l o = then_by (times h.gates (gate_line h.most) (next_lines o)) (symbols h.most i l o)

  abbrev pub body_outputs : Lines ℕ → Lines Latch → Field DraftData
  body_outputs i l = then_by (times h.outputs (output_line h.most) (next_lines l)) (body_gates i l)

  abbrev pub body_latches : Lines ℕ → Field DraftData
  body_latches i = then_by (times h.latches (latch_line h.most) (next_lines i)) (body_outputs i)

  pub chain_gates : (i : Lines ℕ) (l : Lines Latch) (o : Lines ℕ) →
      Chain (times h.gates (gate_line h.most) (next_lines o)) (symbols h.most i l o) AtBody Any (Unit {0})
  chain_gates i l o = with_lines (laws_gate_line h.most) h.gates (next_lines o) (laws_symbols h.most i l o)

  pub chain_outputs : (i : Lines ℕ) (l : Lines Latch) →
      Chain (times h.outputs (output_line h.most) (next_lines l)) (body_gates i l) AtBody Any (Unit {0})
  chain_outputs i l = with_lines (laws_output_line h.most) h.outputs (next_lines l) (λ o. (chain_gates i l o).whole)

  pub chain_latches : (i : Lines ℕ) →
      Chain (times h.latches (latch_line h.most) (next_lines i)) (body_outputs i) AtBody Any (Unit {0})
  chain_latches i = with_lines (laws_latch_line h.most) h.latches (next_lines i) (λ l. (chain_outputs i l).whole)

  pub chain_inputs : (c : Lines ℕ) → Chain (times h.inputs (input_line h.most) c) body_latches AtBody Any (Unit {0})
  chain_inputs c = with_lines (laws_input_line h.most) h.inputs c (λ i. (chain_latches i).whole)

pub chain_text : Chain header body Any Any ⊥
unfolding header body
chain_text = chained chain_header.whole (λ h. (chain_inputs h no_lines).whole) separates_body (λ t h. tt) (λ t h. tt)
    (λ t h. tt) (λ t h. tt) (λ n. n.0)

-- the grammar of a whole AIGER text obeys the grammar laws of the crate `ps_text`
pub laws_text : Lawful circuit_text Any Any ⊥
unfolding circuit_text
laws_text = chain_text.whole
