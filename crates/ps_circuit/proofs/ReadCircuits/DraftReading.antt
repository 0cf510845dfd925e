-- Lemmas for the function that parses an AIGER text from the first byte to the last.
-- - `text_reads`, `text_trails`: the answer to a text follows from the result of parsing the whole grammar
-- - `Reached start now rest`: the text was parsed from `start` to `now`, and the grammar's part `rest` is still to be
--   parsed
-- - `past_header`, `past_lines`: once the header, or the lines of one kind, are parsed, `Reached` holds with the part
--   of the grammar that comes next
-- - `all_reads`: once the symbol table and the comment are parsed, the whole text is parsed
-- - `answered`, `answered_circuit`: the parser returns the answer to the text, and a circuit that it returns is one
-- - `draft_fails`, `draft_trails`: if a part of the text has an error, or bytes remain after the last part, the error
--   that the parser returns is the right answer
use Rattle.std.proofs.Common.{◌≡◌, ℕ, ◌^◌, ◌≤◌, List, [], ◌∷◌, length, Option, None, Some, Result, Ok, Err, IsErrAnd}
use Rattle.std.proofs.Common.{All, refl, sym, ap, subst, ◌∙◌, arith, length-append, rules}
use Rattle.std.specs.Prelude.{replicate, IfOk}
use Rattle.std.proofs.lemmas.Result.{err_from_is_err_and}
use Rattle.ps_text.specs.Answers.{Piece, Stream, Found, offset_of}
use Rattle.ps_text.specs.Parts.{PartAnswers, then_by, times, many}
use Rattle.ps_text.specs.Readers.{Reads as ReadsPart, Stops}
use Rattle.ps_text.proofs.ParsedAnswers.Whole.{answers_ok, answers_fault, answers_trailing}
use Rattle.ps_text.proofs.Combinators.Simple.{same_some}
use Rattle.ps_circuit.specs.declared.reader.Draft.{Draft}
use Rattle.ps_circuit.specs.Inner.Names.{AreNone, TellsComment}
use Rattle.ps_circuit.specs.declared.parts.Latch.{Latch}
use Rattle.ps_circuit.specs.declared.parts.Gate.{Gate}
use Rattle.ps_circuit.specs.declared.fault.AigCause.{AigCause}
use Rattle.ps_circuit.specs.declared.fault.AigCause.TheVariants.{Syntax}
use Rattle.ps_circuit.specs.Causes.{AigFault}
use Rattle.ps_text.specs.declared.faults.Fault.TheVariants.{Text, OutOfMemory}
use Rattle.ps_circuit.specs.Circuits.{CircuitData, IsCircuit}
use Rattle.ps_text.specs.Bytes.{Seen, stream_of}
use Rattle.ps_circuit.specs.Signs.{Field, aig_causes}
use Rattle.ps_text.specs.Cursors.{next_byte, stream_offset}
use Rattle.ps_text.specs.Faults.{found_of}
use Rattle.ps_circuit.specs.Inner.Cursors.{saturated}
use Rattle.ps_circuit.specs.Texts.{HeaderData, header, Lines, no_lines, input_line, NamesData, no_names, symbol_line}
use Rattle.ps_circuit.specs.Texts.{comment, DraftData, draft_of as drafted, symbols, body, circuit_text, IsDefined}
use Rattle.ps_circuit.specs.Texts.{refused, undefined, cyclic, meaning, IsCircuitAnswer}
use Rattle.ps_circuit.specs.Inner.Reading.{FoundAnswers, TellsDraft, TellsDefined, TellsCircuit}
use Rattle.ps_text.proofs.BytesAndDigits.Bytes.Lefts.{unread, past, stops_at, reads_last}
use Rattle.ps_circuit.proofs.ReadCircuits.CircuitParts.{Left, Chain}
use Rattle.ps_text.proofs.BytesAndDigits.Bytes.Single.{Any}
use Rattle.ps_circuit.proofs.ReadCircuits.SignLaws.{AtBody}
use Rattle.ps_circuit.proofs.ReadCircuits.SymbolLemmas.{comment_other}
use Rattle.ps_circuit.proofs.ReadCircuits.CircuitTextLaws.{laws_text, chain_text, chain_symbols, first_names}
use Rattle.ps_circuit.proofs.ReadCircuits.CircuitTextLaws.{body_latches}

-- ## From parts to answers

pub text_stops : (text : List ℕ) (e : AigFault) → Stops aig_causes circuit_text (stream_of text) (found_of e) →
    FoundAnswers text (found_of e)
text_stops text (Text cause offset) s = answers_fault laws_text.laws (stream_of text) _ s
text_stops text OutOfMemory s = tt

pub text_reads : (text : List ℕ) (new : Stream Seen) (d : DraftData) → new.pieces ≡ [] →
    ReadsPart circuit_text (stream_of text) d new → PartAnswers aig_causes circuit_text (stream_of text) (Ok d)
text_reads text new d e m = answers_ok laws_text.laws (stream_of text) d (search (rules, m.1))

pub text_trails : (text : List ℕ) (new : Stream Seen) (d : DraftData) {b : ℕ} {e : AigFault} →
    ReadsPart circuit_text (stream_of text) d new → next_byte new ≡ Some b → e ≡ Text Syntax (stream_offset new) →
    FoundAnswers text (found_of e)
text_trails text new d {b} m n is = subst (λ x. FoundAnswers text (found_of x)) (sym is) (go new.pieces refl)
  where
    go : (ps : List (Piece Seen)) → new.pieces ≡ ps → PartAnswers aig_causes circuit_text (stream_of text)
        (Err (record { cause = Syntax; offset = stream_offset new }))
    go [] y = search (rules, new.end)
    go (p ∷ ps) y =
        let o : p.start ≡ stream_offset new = sym (ap (λ z. offset_of z new.end) y) in
        subst (λ x. PartAnswers aig_causes circuit_text (stream_of text) (Err (record { cause = Syntax; offset = x })))
        o (answers_trailing laws_text.laws (stream_of text) new d p ps m.0 m.1 y)

-- ## The parts of the text, in order

-- the text was parsed from `start` to `now`, the grammar's part `rest` is still to be parsed, and at most 2^63 bytes
-- remain
pub record Reached (start now : Stream Seen) (rest : Field DraftData) : Type 0 where
  pub left : Left circuit_text start rest now
  pub short : length now.pieces ≤ 2 ^ 63

reads_on : {A : Type 0} {P : Field A} {Q : A → Field DraftData} {First More : Seen → Type 0} {Null : Type 0} →
    Chain P Q First More Null → {start now : Stream Seen} → Reached start now (then_by P Q) → (a : A)
    {next : Stream Seen} → ReadsPart P now a next → Reached start next (Q a)
reads_on j {now = now} r a {next} m = grind (arith, past j r.left m, length-append m.0.taken next.pieces)

-- the numbers d of the first line, except that `most`, the number that the parser's code stores, replaces the greatest
-- variable
abbrev pub numbers : ℕ → HeaderData → HeaderData
numbers most d = record { most = most; inputs = d.inputs; latches = d.latches; outputs = d.outputs; gates = d.gates }

pub text_unread : {start : Stream Seen} → Left circuit_text start (then_by header body) start
unfolding circuit_text
text_unread = unread

-- the grammar of the text after the header, from the input lines on
abbrev pub body_inputs : HeaderData → Lines ℕ → Field DraftData
body_inputs h c = then_by (times h.inputs (input_line h.most) c) (body_latches h)

pub past_header : {start next : Stream Seen} {most : ℕ} {d : HeaderData} → most ≡ d.most → length start.pieces ≤ 2 ^ 63
    → ReadsPart header start d next → {c : Lines ℕ} → c ≡ no_lines → Reached start next (body_inputs (numbers most d) c)
unfolding body
past_header {start} {next} {most} {d} e short m is = subst (λ x. Reached start next (body_inputs (numbers most d) x))
    (sym is) (reads_on chain_text (record { left = text_unread; short = short }) (numbers most d) (grind arith))

-- the text continues with n lines of one kind, as the header states; the parser's code stores n as `count`, which is
-- the greatest number of 64 bits if n does not fit
pub record Ahead {A : Type 0} (item : Lines A → Field (Lines A)) (Q : Lines A → Field DraftData)
    (start now : Stream Seen) (count : ℕ) (noted : Lines A) : Type 0 where
  pub n : ℕ
  pub counted : count ≡ saturated n
  pub chain : Chain (times n item noted) Q AtBody Any (Unit {0})
  pub reached : Reached start now (then_by (times n item noted) Q)

module _ {A : Type 0} {item : Lines A → Field (Lines A)} {Q : Lines A → Field DraftData} {start now : Stream Seen}
    {count : ℕ} {noted : Lines A} (x : Ahead item Q start now count noted) where
  pub past_lines : (a : Lines A) {next : Stream Seen} →
      ((k : ℕ) → count ≡ saturated k → length now.pieces ≤ 2 ^ 63 → ReadsPart (times k item noted) now a next) →
      Reached start next (Q a)
  past_lines a m = reads_on x.chain x.reached a (m x.n x.counted x.reached.short)

  pub lines_fail : (o : Option (Found AigCause)) →
      ((k : ℕ) → count ≡ saturated k → length now.pieces ≤ 2 ^ 63 → Stops aig_causes (times k item noted) now o) →
      Stops aig_causes circuit_text start o
  lines_fail o m = stops_at x.chain x.reached.left o (m x.n x.counted x.reached.short)

-- the end of an AIGER text: the symbol table and the comment after it
module _ (most : ℕ) (i : Lines ℕ) (l : Lines Latch) (u : Lines ℕ) (a : Lines Gate) {start now : Stream Seen}
    (r : Reached start now (symbols most i l u a)) {n0 : NamesData} (en : n0 ≡ first_names most i l u a) where
  pub symbols_fail : (o : Option (Found AigCause)) → Stops aig_causes (many symbol_line n0) now o →
      Stops aig_causes circuit_text start o
  unfolding symbols
  symbols_fail o m = stops_at (chain_symbols most i l u a) r.left o (grind arith)

  pub all_reads : {names : NamesData} {next last : Stream Seen} → ReadsPart (many symbol_line n0) now names next →
      ReadsPart comment next tt last → ReadsPart circuit_text start (drafted most i l u a names) last
  unfolding symbols
  all_reads {names} {next} m k = reads_last (λ _. drafted most i l u a names) (past (chain_symbols most i l u a) r.left
      (subst (λ n. ReadsPart (many symbol_line n) now names next) en m)) k refl

-- ## The answer

pub answer_fails : (text : List ℕ) (e : AigFault) (r : Result CircuitData AigFault) → FoundAnswers text (found_of e) →
    IsErrAnd r (λ y. y ≡ e) → IsCircuitAnswer text r
answer_fails text e r m i = search (rules, err_from_is_err_and, go)
  where
    go : (e : AigFault) → FoundAnswers text (found_of e) → IsCircuitAnswer text (Err e)
    go (Text cause offset) m = refused (record { cause = cause; offset = offset }) m refl
    go OutOfMemory m = tt

module _ (text : List ℕ) (d : DraftData) (okay : PartAnswers aig_causes circuit_text (stream_of text) (Ok d)) where
  pub answer_undefined : (e : AigFault) (r : Result CircuitData AigFault) → TellsDefined d.defined d.readings (Err e) →
      IsErrAnd r (λ y. y ≡ e) → IsCircuitAnswer text r
  answer_undefined e r m i = let y = err_from_is_err_and r i in
      subst (IsCircuitAnswer text) (sym (y.1 ∙ ap Err (y.2 ∙ m.1))) (undefined d m.0 okay m.2 refl)

  pub answered : All (IsDefined d.defined) d.readings → (r : Result CircuitData AigFault) →
      TellsCircuit d.circuit d.starts r → IsCircuitAnswer text r
  answered known (Ok c) made =
      meaning d okay known (λ i. search (rules, made.well_formed.acyclic)) (ap Ok made.is)
  answered known (Err (Text f offset)) k =
      cyclic d k.0 offset okay known k.2 k.3 (ap (λ x. Err (record { cause = x; offset = offset })) k.1)
  answered known (Err OutOfMemory) k = tt

pub answered_circuit : (parts : CircuitData) (starts : List ℕ) (r : Result CircuitData AigFault) →
    TellsCircuit parts starts r → IfOk r IsCircuit
answered_circuit parts starts (Ok c) made = made.well_formed
answered_circuit parts starts (Err e) k = tt

-- ## The ways in which the function can return

pub draft_fails : (text : List ℕ) {start : Stream Seen} (e : AigFault) (r : Result Draft AigFault) →
    start ≡ stream_of text → Stops aig_causes circuit_text start (found_of e) → IsErrAnd r (λ y. y ≡ e) →
    TellsDraft text r
draft_fails text e r is s i = search (rules, err_from_is_err_and, text_stops)

pub draft_memory : (text : List ℕ) {e : AigFault} (r : Result Draft AigFault) → e ≡ OutOfMemory →
    IsErrAnd r (λ y. y ≡ e) → TellsDraft text r
draft_memory text r m i = let y = err_from_is_err_and r i in subst (TellsDraft text) (sym (y.1 ∙ ap Err (y.2 ∙ m))) tt

pub draft_trails : (text : List ℕ) {start s6 : Stream Seen} (s7 : Stream Seen) {d : DraftData} {e : AigFault}
    (r : Result Draft AigFault) → start ≡ stream_of text → TellsComment s6 (Err e) s7 →
    (ReadsPart comment s6 tt s6 → ReadsPart circuit_text start d s6) → IsErrAnd r (λ y. y ≡ e) → TellsDraft text r
draft_trails text {start} {s6} s7 {d} {e} r is c m i =
    search (rules, err_from_is_err_and, same_some, text_trails, comment_other)

pub draft_reads : (text : List ℕ) {start s7 : Stream Seen} {d : DraftData} → start ≡ stream_of text → s7.pieces ≡ [] →
    ReadsPart circuit_text start d s7 → PartAnswers aig_causes circuit_text (stream_of text) (Ok d)
draft_reads text {start} {s7} {d} is e m = text_reads text s7 d e (subst (λ x. ReadsPart circuit_text x d s7) is m)

-- a list of optional names in which no input, latch or output has a name
none_of : {A : Type 0} {n : ℕ} (items : List A) → n ≡ length items → replicate n None ≡ no_names items
none_of [] e = ap (λ k. replicate k None) e
none_of (x ∷ items) e = ap (λ k. replicate k None) e ∙ ap (λ xs. None ∷ xs) (none_of items refl)

pub none_named : (most : ℕ) (i : Lines ℕ) (l : Lines Latch) (u : Lines ℕ) (a : Lines Gate) {names : NamesData}
    {ni nl nu : ℕ} → AreNone names ni nl nu → ni ≡ length i.items → nl ≡ length l.items → nu ≡ length u.items →
    names ≡ first_names most i l u a
none_named most i l u a x e f g = search (rules, none_of)
