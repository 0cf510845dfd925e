-- Lemmas for the functions that parse numbers and the first line of an AIGER text, including the cases in which they
-- fail.
use Rattle.std.proofs.Common.{◌≡◌, ℕ, zero, suc, ◌-◌, ◌<◌, ◌≤◌, Bool, true, false, List, Option, Result, Ok, Err, rules}
use Rattle.std.proofs.Common.{IsErrAnd, refl, sym, ap, ap₂, subst, inl, inr, ◌∙◌, arith}
use Rattle.std.specs.Prelude.{codes}
use Rattle.std.proofs.lemmas.Result.{err_from_is_err_and}
use Rattle.ps_text.specs.Answers.{Stream, Found}
use Rattle.ps_text.specs.Parts.{give, then_by}
use Rattle.ps_text.specs.Readers.{Reads, Stops}
use Rattle.ps_text.specs.Digits.{decimal_value}
use Rattle.ps_text.proofs.ParsedAnswers.Exits.{reads_give, reads_then, stops_first, stops_behind}
use Rattle.ps_circuit.specs.declared.number.Number.{Number}
use Rattle.ps_circuit.specs.declared.sizes.Header.{Header}
use Rattle.ps_circuit.specs.declared.fault.AigCause.{AigCause}
use Rattle.ps_circuit.specs.declared.fault.AigCause.TheVariants.{Syntax, Literal, Sections}
use Rattle.ps_circuit.specs.Causes.{AigFault, cause_number}
use Rattle.ps_text.specs.declared.faults.Fault.TheVariants.{Text}
use Rattle.ps_text.specs.Bytes.{Seen, word, is_digit}
use Rattle.ps_circuit.specs.Signs.{aig_causes, Field, number_at, number, gap, line_end, more, by_more}
use Rattle.ps_text.specs.Cursors.{stream_offset}
use Rattle.ps_text.specs.Faults.{found_of}
use Rattle.ps_circuit.specs.Inner.Cursors.{Tells, saturated, NumberIs, TellsNumber}
use Rattle.ps_circuit.specs.Texts.{AnyNumber, WrongMost, WrongCount, sections, field, header}
use Rattle.ps_circuit.specs.Inner.Reading.{TellsField, TellsCount, TellsHeader}
use Rattle.ps_text.proofs.BytesAndDigits.Bytes.Runs.{run_reads, run_bad, run_stops}
use Rattle.ps_text.proofs.BytesAndDigits.Bytes.Lefts.{unread, past}
use Rattle.ps_circuit.proofs.ReadCircuits.CircuitParts.{Left, Judges}
use Rattle.ps_circuit.proofs.ReadCircuits.FieldExits.{comes, none_comes}
use Rattle.ps_circuit.proofs.ReadCircuits.Judges.{judge_any, judge_most}
use Rattle.ps_circuit.proofs.ReadCircuits.CircuitTextLaws.{laws_sections, chain_sections, chain_counted, chain_field}
use Rattle.ps_circuit.proofs.ReadCircuits.CircuitTextLaws.{chain_header}
use Rattle.ps_circuit.proofs.ReadCircuits.CircuitTextLaws.{chain_0}
use Rattle.ps_circuit.proofs.ReadCircuits.CircuitTextLaws.{chain_1, chain_2, chain_3, chain_4, header_0, header_1}
use Rattle.ps_circuit.proofs.ReadCircuits.CircuitTextLaws.{header_2}
use Rattle.ps_circuit.proofs.ReadCircuits.CircuitTextLaws.{header_3}
use Rattle.ps_circuit.proofs.ReadCircuits.CircuitTextLaws.{header_4, header_5}

-- ## Numbers

abbrev BadDigits : (ℕ → AigCause → Type 0) → List ℕ → AigCause → Type 0
BadDigits Wrong digits f = Wrong (decimal_value digits) f

number_is : {old new : Stream Seen} {n : Number} (x : NumberIs old new n) → n.value ≡ decimal_value x.run →
    n ≡ number_at (stream_offset old) x.run
number_is x e = ap₂ (λ (v o : ℕ). record { value = v; offset = o }) e x.offset

pub number_small : (Wrong : ℕ → AigCause → Type 0) {old new : Stream Seen} {n : Number} → NumberIs old new n →
    n.value < 18446744073709551615 → ((f : AigCause) → Wrong n.value f → ⊥) → Reads (number Wrong) old n new
unfolding number
number_small Wrong {old} {new} {n} x small good =
    let v : n.value ≡ decimal_value x.run = omega (arith, x.value) in
    run_reads is_digit number_at (BadDigits Wrong) x.passes x.some (λ f b. grind arith) (number_is x v)

-- a number of any size is parsed, and stored as the greatest number of 64 bits if it does not fit
pub number_any : {old new : Stream Seen} {n : Number} → NumberIs old new n →
    (v : Number) × (n.value ≡ saturated v.value) × Reads (number AnyNumber) old v new
unfolding number
number_any {old} {new} x = (
  number_at (stream_offset old) x.run,
  x.value,
  search (rules, run_reads),
)

pub number_wrong : (Wrong : ℕ → AigCause → Type 0) {old new : Stream Seen} {n : Number} (f : AigCause) {e : AigFault} →
    NumberIs old new n → ((v : ℕ) → n.value ≡ saturated v → Wrong v f)
    → ((v : ℕ) → n.value ≡ saturated v → (g : AigCause) → Wrong v g → cause_number f ≤ cause_number g) →
    e ≡ Text f n.offset → Stops aig_causes (number Wrong) old (found_of e)
unfolding number
number_wrong Wrong {old} {new} f x wrong least is = subst (λ y. Stops aig_causes (number Wrong) old (found_of y))
    (sym (is ∙ ap (Text f) x.offset)) (search (rules, run_bad))

-- an error that the function for numbers reports is the first error of the grammar's part `number`
pub number_none : (Wrong : ℕ → AigCause → Type 0) {old : Stream Seen} (new : Stream Seen) (fault : AigFault) →
    TellsNumber old (Err fault) new → Stops aig_causes (number Wrong) old (found_of fault)
unfolding number
number_none Wrong {old} new e m =
    grind (arith, run_stops is_digit number_at (BadDigits Wrong) cause_number Syntax 48 refl m.0)

-- ## Numbers after a gap

pub field_reads : {Wrong : ℕ → AigCause → Type 0} → Judges Wrong → {old mid new : Stream Seen} {n : Number} →
    Reads gap old tt mid → Reads (number Wrong) mid n new → Reads (field Wrong) old n new
unfolding field
field_reads judge g m = reads_then (chain_field judge).joint g m

pub field_fails : {Wrong : ℕ → AigCause → Type 0} → Judges Wrong → {old mid : Stream Seen} (o : Option (Found AigCause))
    → Reads gap old tt mid → Stops aig_causes (number Wrong) mid o → Stops aig_causes (field Wrong) old o
unfolding field
field_fails judge o g m = stops_behind aig_causes (chain_field judge).joint g o m

pub field_none : {Wrong : ℕ → AigCause → Type 0} → Judges Wrong → {old : Stream Seen} (new : Stream Seen)
    (e : AigFault) → TellsField old (Err e) new → Stops aig_causes (field Wrong) old (found_of e)
unfolding field
field_none judge {old} new e (inl m) = stops_first aig_causes (chain_field judge).joint old (found_of e) m
field_none {Wrong} judge new e (inr m) = field_fails judge (found_of e) m.1 (number_none Wrong new e m.2)

pub most_reads : {old new : Stream Seen} {n : Number} → TellsField old (Ok n) new → n.value ≤ 2147483647 →
    Reads (field WrongMost) old n new
most_reads m small = field_reads judge_most m.1 (number_small WrongMost m.2 (omega arith) (λ f w. omega (arith, w.0)))

pub most_wrong : {old : Stream Seen} (new : Stream Seen) (n : Number) {e : AigFault} → TellsField old (Ok n) new →
    2147483647 < n.value → e ≡ Text Literal n.offset → Stops aig_causes (field WrongMost) old (found_of e)
most_wrong new n {e} m large is = field_fails judge_most (found_of e) m.1
    (number_wrong WrongMost Literal m.2 (λ v h. (omega (arith, h), refl)) (λ v h g w. rw w.1 (omega arith)) is)

pub count_reads : (old new : Stream Seen) (n : Number) → TellsField old (Ok n) new → TellsCount old (Ok n.value) new
count_reads old new n m = let v = number_any m.2 in (v.0, v.1, field_reads judge_any m.1 v.2)

pub count_fails : (old mid new : Stream Seen) (e : AigFault) (r : Result ℕ AigFault) → TellsField old (Err e) mid →
    IsErrAnd r (λ y. y ≡ e) → TellsCount old r new
count_fails old mid new e r m i = grind (arith, err_from_is_err_and r i, field_none judge_any mid e m)

-- ## Sections

pub sections_end : (old new : Stream Seen) (left : ℕ) (r : Result (Unit {0}) AigFault) → left ≡ 0 →
    Tells (λ u. u) line_end old r new → Tells (λ u. u) (sections left) old r new
unfolding sections
sections_end old new left r h k = search rules

abbrev pub section : ℕ → Field (Unit {0})
section left = then_by (number WrongCount) (λ _. sections (left - 1))

pub sections_unread : (left : ℕ) {old : Stream Seen} → 0 < left →
    Left (sections left) old (then_by more (by_more (section left) (give tt))) old
unfolding sections
sections_unread zero l = absurd (omega arith)
sections_unread (suc n) {old} l =
    let one : n ≡ suc n - 1 = omega arith in
    subst (λ k. Left (sections (suc n)) old
    (then_by more (by_more (then_by (number WrongCount) (λ _. sections k)) (give tt))) old) one unread

-- if the header goes on after a number, the size of a further section (B, C, J or F) is still to be parsed
pub section_unread : (left : ℕ) {old mid : Stream Seen} {b : Bool} → 0 < left → b ≡ true → Reads more old b mid →
    Left (sections left) old (section left) mid
section_unread left l e m =
    comes (section left) (give tt) (past (chain_sections (left - 1)) (sections_unread left l) m) e

pub sections_ended : {old new : Stream Seen} (left : ℕ) {b : Bool} → 0 < left → b ≡ false → Reads more old b new →
    Reads (sections left) old tt new
sections_ended {new = new} left l e m = (none_comes (section left) (give tt)
    (past (chain_sections (left - 1)) (search (rules, sections_unread)) m) e).carries (Ok tt) new (reads_give new tt)

pub sections_next : {old mid next : Stream Seen} (new : Stream Seen) (left : ℕ) {k : Number}
    (r : Result (Unit {0}) AigFault) → Left (sections left) old (section left) mid →
    Reads (number WrongCount) mid k next → Tells (λ u. u) (sections (left - 1)) next r new →
    Tells (λ u. u) (sections left) old r new
sections_next new left (Ok u) l s t =
    (past (chain_counted (left - 1) (laws_sections (left - 1))) l s).carries (Ok u) new t
sections_next {next = next} new left (Err f) l s t =
    (past (chain_counted (left - 1) (laws_sections (left - 1))) l s).carries (Err (found_of f)) next t

pub count_zero : {old new : Stream Seen} {n : Number} → NumberIs old new n → n.value ≡ 0 →
    Reads (number WrongCount) old n new
count_zero x e = number_small WrongCount x (omega (arith, e)) (λ f w. w.0 e)

pub count_wrong : {old new : Stream Seen} {n : Number} {e : AigFault} → NumberIs old new n → (n.value ≡ 0 → ⊥) →
    e ≡ Text Sections n.offset → Stops aig_causes (number WrongCount) old (found_of e)
count_wrong x some is = number_wrong WrongCount Sections x (λ v h. grind arith) (λ v h g w. rw w.1 (omega arith)) is

-- ## The first line

pub header_exit : (old new : Stream Seen) (e : AigFault) (r : Result Header AigFault) →
    Stops aig_causes header old (found_of e) → IsErrAnd r (λ y. y ≡ e) → TellsHeader old r new
header_exit old new e r m i = search (rules, err_from_is_err_and)

pub header_unread : {old : Stream Seen} → Left header old (then_by (word (codes "aag")) (λ _. header_0)) old
unfolding header
header_unread = unread

-- the part of the first line's grammar that remains after the numbers that were already parsed
module _ {old : Stream Seen} {s0 s1 : Stream Seen} {m : Number}
    (w : Reads {F = AigCause} (word (codes "aag")) old tt s0)
    (r1 : Reads (field WrongMost) s0 m s1) where
  pub past_most : Left header old (header_1 m) s1
  past_most = past chain_0 (past chain_header header_unread w) r1

  module _ {s2 : Stream Seen} {i : Number} (r2 : Reads (field AnyNumber) s1 i s2) where
    pub past_inputs : Left header old (header_2 m i) s2
    past_inputs = past (chain_1 m) past_most r2

    module _ {s3 : Stream Seen} {l : Number} (r3 : Reads (field AnyNumber) s2 l s3) where
      pub past_latches : Left header old (header_3 m i l) s3
      past_latches = past (chain_2 m i) past_inputs r3

      module _ {s4 : Stream Seen} {o : Number} (r4 : Reads (field AnyNumber) s3 o s4) where
        pub past_outputs : Left header old (header_4 m i l o) s4
        past_outputs = past (chain_3 m i l) past_latches r4

        pub past_gates : {s5 : Stream Seen} {a : Number} → Reads (field AnyNumber) s4 a s5 →
            Left header old (header_5 m i l o a) s5
        past_gates r5 = past (chain_4 m i l o) past_outputs r5
