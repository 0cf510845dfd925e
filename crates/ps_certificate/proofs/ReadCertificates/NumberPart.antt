-- Lemmas about parsing a number in a certificate's text: which number is read, and which error is reported.
use Rattle.std.proofs.Common.{rules, ◌≡◌, ℕ, zero, suc, ◌+◌, ◌^◌, ◌<◌, ◌≤◌, ◌⊎◌, List, [], ◌∷◌, ◌++◌, length, take}
use Rattle.std.proofs.Common.{drop, refl, sym, ap, subst, inl, inr, ◌∙◌, append_assoc, arith, length-append}
use Rattle.std.proofs.Math.Seq.{take-append_seam, drop-append_seam}
use Rattle.std.proofs.lemmas.List.{take-map, take-append-drop}
use Rattle.ps_text.specs.Answers.{Begins, signs, first_of, Stream}
use Rattle.ps_text.specs.Parts.{IsRead, IsFault, IsFaultAt, is_cause, is_refusal, StopsAt, CleanUpTo}
use Rattle.ps_text.specs.Readers.{StopsWith, Reads, Stops}
use Rattle.ps_text.specs.Faults.{found_of}
use Rattle.ps_text.specs.Digits.{IsDigit, IsPlainNumber, decimal_value}
use Rattle.ps_text.specs.declared.faults.Fault.TheVariants.{Text}
use Rattle.std.specs.List.{All}
use Rattle.std.proofs.lemmas.List.Elements.{All-head, All-drop}
use Rattle.ps_text.proofs.Combinators.Splits.{same_head}
use Rattle.ps_text.proofs.Combinators.Laws.{Laws}
use Rattle.ps_text.proofs.Combinators.Simple.{none_is_some}
use Rattle.ps_text.proofs.ParsedAnswers.Whole.{Own}
use Rattle.ps_certificate.specs.declared.fault.CertCause.{CertCause}
use Rattle.ps_certificate.specs.declared.fault.CertCause.TheVariants.{Syntax, OtherGame}
use Rattle.ps_certificate.specs.Faults.{CertFault, cause_number}
use Rattle.ps_text.specs.Cursors.{stream_offset}
use Rattle.ps_text.proofs.BytesAndDigits.Bytes.Pieces.{bytes_append, bytes_at, pieces_with, pieces_split}
use Rattle.ps_certificate.specs.Inner.Reading.{numeral, HasNoNumber, IsNumberRead}
use Rattle.ps_text.specs.Bytes.{Seen, pieces_at, bytes_of}
use Rattle.ps_certificate.specs.Texts.{causes, EndsField, Verdict, IsBadNumber, Field, judged, OfOtherGame, number}
use Rattle.ps_certificate.specs.Texts.{IsZero, WrongPriority}
use Rattle.ps_certificate.specs.Pairs.{Pairs}
use Rattle.ps_text.proofs.BytesAndDigits.Decimals.{value_grows}
use Rattle.ps_certificate.proofs.ReadCertificates.Numerals.{numeral_split, numeral_plain, numeral_longest, plain_front}
use Rattle.ps_certificate.proofs.ReadCertificates.Numerals.{numeral_ended}
use Rattle.ps_certificate.proofs.ReadCertificates.Numerals.{numeral_zero}

-- ## The bytes after the first ones

dropped : (n at : ℕ) (bytes : List ℕ) → drop n (signs (pieces_at at bytes)) ≡ signs (pieces_at (at + n) (drop n bytes))
dropped zero at bytes = let e : at ≡ at + 0 = omega arith in ap (λ a. signs (pieces_at a bytes)) e
dropped (suc n) at [] = refl
dropped (suc n) at (b ∷ bytes) = grind (arith, dropped n (at + 1) bytes)

-- ## The errors of the number with which bytes begin

abbrev pub run_length : List ℕ → ℕ
run_length bytes = length (numeral bytes)

-- the condition `Wrong` rejects a number only if a space, a newline or a colon follows the number, or if the number is
-- 0
abbrev pub Settled : Verdict → Type 0
Settled Wrong = (more : List ℕ) (n : ℕ) (f : CertCause) → Wrong more n f → EndsField more ⊎ (n ≡ 0)

pub settled_other : (Wrong : ℕ → Type 0) → Settled (OfOtherGame Wrong)
settled_other Wrong more n f w = inl w.1

pub settled_zero : Settled IsZero
settled_zero more n f w = inr w.1

pub settled_priority : (ps : List ℕ) (pairs : Pairs) → Settled (WrongPriority ps pairs)
settled_priority ps pairs more n f w = inl w.0

abbrev pub IsWrongRun : Verdict → List ℕ → CertCause → Type 0
IsWrongRun Wrong bytes f = ((f ≡ Syntax) × (2 ^ 64 ≤ decimal_value (numeral bytes))) ⊎ Wrong
    (drop (run_length bytes) bytes) (decimal_value (numeral bytes)) f

pub run_long : {bytes : List ℕ} (digits more : List ℕ) → bytes ≡ digits ++ more → IsPlainNumber digits →
    0 < run_length bytes
run_long {bytes} digits more e h =
    let long = numeral_longest digits more h in
    grind (arith, length-append)

pub run_is_wrong : {Wrong : Verdict} → Settled Wrong → {bytes : List ℕ} {t : Seen} {f : CertCause}
    → bytes ≡ t.byte ∷ t.behind → IsBadNumber Wrong t f → (0 < run_length bytes) × IsWrongRun Wrong bytes f
run_is_wrong {Wrong} settled {bytes} {f} e b = (run_long b.digits b.more whole b.number, go b.bad)
  where
    whole : bytes ≡ b.digits ++ b.more
    whole = e ∙ b.split

    run_is : EndsField b.more ⊎ (decimal_value b.digits ≡ 0) → numeral bytes ≡ b.digits
    run_is h = grind (arith, whole, numeral_ended, numeral_zero)

    go : ((f ≡ Syntax) × (2 ^ 64 ≤ decimal_value b.digits)) ⊎ Wrong b.more (decimal_value b.digits) f
        → IsWrongRun Wrong bytes f
    go (inl x) =
        let long = numeral_longest b.digits b.more b.number in
        grind (arith, value_grows b.digits long.0)
    go (inr x) = grind (arith, run_is, drop-append_seam)

pub wrong_run_is : {Wrong : Verdict} {bytes : List ℕ} {t : Seen} {f : CertCause} → bytes ≡ t.byte ∷ t.behind
    → 0 < run_length bytes → IsWrongRun Wrong bytes f → IsBadNumber Wrong t f
wrong_run_is {bytes} e l w = grind (arith, numeral_split bytes, numeral_plain bytes l)

-- ## Reading a number

one_byte : (b : ℕ) (more : List ℕ) → IsPlainNumber (b ∷ more) → IsPlainNumber (b ∷ [])
one_byte b more h = plain_front (b ∷ []) more (omega arith) h

-- assumed in this module: the bytes begin with a digit, and the number with which they begin has no error
module _ (Wrong : Verdict) (settled : Settled Wrong) (t : Seen) (after : List Seen)
    (long : 0 < run_length (t.byte ∷ t.behind))
    (right : (f : CertCause) → IsWrongRun Wrong (t.byte ∷ t.behind) f → ⊥) where
  abbrev all : List Seen
  all = t ∷ after

  abbrev bytes : List ℕ
  bytes = bytes_of all

  abbrev text : List Seen
  text = take (run_length bytes) all

  abbrev rest : List Seen
  rest = drop (run_length bytes) all

  one_plain : (digits more : List ℕ) → t.byte ∷ t.behind ≡ digits ++ more → 0 < length digits → IsPlainNumber digits →
      IsPlainNumber (t.byte ∷ [])
  one_plain digits more h k m = search (rules, same_head, plain_front)

  begins : 0 < run_length bytes
  begins = search (rules, run_long, one_plain, numeral_split, numeral_plain)

  same : bytes_of text ≡ numeral bytes
  same = sym (take-map (λ (s : Seen). s.byte) (run_length bytes) all) ∙ ap (take (run_length bytes))
      (numeral_split bytes) ∙ take-append_seam (numeral bytes) (drop (run_length bytes) bytes)

  split : all ≡ text ++ rest
  split = sym (take-append-drop (run_length bytes) all)

  stops : (r : List Seen) → rest ≡ r → StopsAt (judged Wrong) text (first_of r)
  stops [] e = tt
  stops (c ∷ r) e = λ b.
      let whole : bytes_of ((text ++ c ∷ []) ++ b.more) ≡ (numeral bytes ++ c.byte ∷ []) ++ bytes_of b.more =
      grind (arith, bytes_append, same) in
      let plain : IsPlainNumber (numeral bytes ++ c.byte ∷ []) = grind (arith, plain_front, length-append) in
      let parts : bytes ≡ (numeral bytes ++ c.byte ∷ []) ++ bytes_of r = ap bytes_of (split ∙ ap (λ z. text ++ z) e)
      ∙ bytes_append text (c ∷ r) ∙ ap (λ x. x ++ c.byte ∷ bytes_of r) same ∙ sym (grind (arith, append_assoc)) in
      let longest = numeral_longest (numeral bytes ++ c.byte ∷ []) (bytes_of r) plain in
      grind (arith, length-append)

  clean : CleanUpTo (judged Wrong) all (length text + 1)
  clean front more u f e l c = right f (grind (arith, run_is_wrong settled refl c.1))

  pub number_read : IsRead (judged Wrong) all (decimal_value (numeral bytes)) rest
  number_read = record {
    text = text;
    split = split;
    is_text = (subst IsPlainNumber (sym same) (numeral_plain bytes begins), ap decimal_value (sym same));
    stops = stops rest refl;
    clean = clean;
  }

pub read_run : {Wrong : Verdict} → Settled Wrong → (at : ℕ) (bytes : List ℕ) {n : ℕ} {rest : List ℕ} →
    0 < run_length bytes → decimal_value (numeral bytes) ≡ n → n < 2 ^ 64 → drop (run_length bytes) bytes ≡ rest →
    ((f : CertCause) → Wrong rest n f → ⊥) →
    IsRead (judged Wrong) (signs (pieces_at at bytes)) n (signs (pieces_at (at + run_length bytes) rest))
read_run settled at [] long value small behind right = absurd (omega arith)
read_run {Wrong} settled at (b ∷ more) {n} {rest} long value small behind right =
    let bytes = b ∷ more in
    grind (
      arith,
      dropped (run_length bytes) at bytes,
      bytes_at at bytes,
      number_read Wrong settled (record { byte = b; at = at; behind = more })
          (signs (pieces_at (at + 1) more)) long none,
    )
  where
    none : (f : CertCause) → IsWrongRun Wrong (b ∷ more) f → ⊥
    none f h = grind arith

-- the parser has read the longest number with which the bytes begin
module _ {old new : Stream Seen} {n : ℕ} (r : IsNumberRead old new n) where
  abbrev pub read_bytes : List ℕ
  read_bytes = r.digits ++ r.rest

  read_length : run_length read_bytes ≡ length r.digits
  read_length = ap length r.whole

  read_long : 0 < run_length read_bytes
  read_long = omega (arith, read_length, r.some)

  read_value : decimal_value (numeral read_bytes) ≡ n
  read_value = ap decimal_value r.whole ∙ sym r.value

  read_behind : drop (run_length read_bytes) read_bytes ≡ r.rest
  read_behind = ap (λ k. drop k read_bytes) read_length ∙ drop-append_seam r.digits r.rest

pub judged_reads : (Wrong : Verdict) → Settled Wrong → {old new : Stream Seen} {n : ℕ} (r : IsNumberRead old new n) →
    ((f : CertCause) → Wrong r.rest n f → ⊥) → Reads (judged Wrong) old n new
judged_reads Wrong settled {old} {new} {n} r right = (
  record {
    taken = pieces_with r.at r.digits r.rest;
    split = r.old_is ∙ pieces_split r.at r.digits r.rest ∙ ap (λ ps. pieces_with r.at r.digits r.rest ++ ps)
        (sym r.new_is);
    end = r.end;
  },
  rw (r.old_is, r.new_is, ← read_length r)
      (read_run settled r.at (read_bytes r) (read_long r) (read_value r) r.small (read_behind r) right),
)

pub judged_begins : (Wrong : Verdict) → Begins (judged Wrong).IsText []
judged_begins Wrong = record {
  more = record { byte = 48; at = 0; behind = [] } ∷ [];
  value = 0;
  is_text = (numeral_plain (48 ∷ []) (omega arith), refl);
}

-- an error that a part of the grammar has at the first byte of the text is the first error of this part
pub at_front : {V : Type 0} {P : Field V} {all : List Seen} {f : CertCause} →
    IsFaultAt causes P [] (first_of all) f → IsFault causes P all f all
at_front h = record { front = []; split = refl; clean = λ front more t g e l c. absurd (omega (arith, l)); fault = h }

pub stops_there : {V : Type 0} {P : Field V} {old : Stream Seen} (at : ℕ) (ahead : List ℕ) {f : CertCause} →
    old.pieces ≡ pieces_at at ahead → IsFaultAt causes P [] (first_of (signs (pieces_at at ahead))) f →
    StopsWith causes P old (record { cause = f; offset = stream_offset old })
stops_there {P = P} {old = old} at ahead {f = f} e h = record {
  front = [];
  rest = old.pieces;
  split = refl;
  fault = at_front (subst (λ ps. IsFaultAt causes P [] (first_of (signs ps)) f) (sym e) h);
  offset = refl;
}

-- if the bytes don't begin with a number, the error is `Syntax` at the first byte
pub nothing_there : (Wrong : Verdict) (at : ℕ) (bytes : List ℕ) → numeral bytes ≡ []
    → IsFaultAt causes (judged Wrong) [] (first_of (signs (pieces_at at bytes))) Syntax
nothing_there Wrong at [] e = grind (arith, judged_begins Wrong, stops)
nothing_there Wrong at (b ∷ bytes) e = is_refusal (record {
  before = judged_begins Wrong;
  no_text = λ v h. absurd (omega (arith, h.0.0.0));
  stops = λ x. grind (arith, run_long (b ∷ []) bytes refl (one_byte b (bytes_of x.more) x.is_text.0));
  no_cause = λ f c. let l = run_long c.1.digits c.1.more c.1.split c.1.number in omega (arith, l, ap length e);
}) refl

pub syntax_least : (g : CertCause) → cause_number Syntax ≤ cause_number g
syntax_least g = search rules

pub too_large : (Wrong : Verdict) (at : ℕ) (bytes : List ℕ) → 0 < run_length bytes → 2 ^ 64 ≤ decimal_value
    (numeral bytes) → IsFaultAt causes (judged Wrong) [] (first_of (signs (pieces_at at bytes))) Syntax
too_large Wrong at [] l h = absurd (omega arith)
too_large Wrong at (b ∷ bytes) l h = let sign : Seen = record { byte = b; at = at; behind = bytes } in
    is_cause sign refl (refl, wrong_run_is refl l (inl (refl, h))) (λ g c. syntax_least g)

-- if the condition `Wrong` rejects the number, the number's error is reported at its first digit
pub wrong_number : {Wrong : Verdict} → Settled Wrong → (at : ℕ) (bytes : List ℕ) {n : ℕ} {rest : List ℕ}
    {f : CertCause} → 0 < run_length bytes → decimal_value (numeral bytes) ≡ n → n < 2 ^ 64 → drop (run_length bytes)
    bytes ≡ rest → Wrong rest n f → ((g : CertCause) → Wrong rest n g → cause_number f ≤ cause_number g) →
    IsFaultAt causes (judged Wrong) [] (first_of (signs (pieces_at at bytes))) f
wrong_number settled at [] l value small behind wrong first = absurd (omega arith)
wrong_number {Wrong} settled at (b ∷ bytes) {f = f} l value small behind wrong first =
    is_cause (record { byte = b; at = at; behind = bytes }) refl
    (refl, wrong_run_is refl l (inr (rw (value, behind) wrong))) (λ g c. least g (run_is_wrong settled refl c.1).1)
  where
    least : (g : CertCause) → IsWrongRun Wrong (b ∷ bytes) g → cause_number f ≤ cause_number g
    least g h = grind arith

pub stops_at_place : {V : Type 0} {P : Field V} {old : Stream Seen} {f : CertCause} {e : CertFault} →
    StopsWith causes P old (record { cause = f; offset = stream_offset old }) → e ≡ Text f (stream_offset old) →
    Stops causes P old (found_of e)
stops_at_place {P = P} {old = old} s is = subst (λ x. Stops causes P old (found_of x)) (sym is) s

-- if the bytes do not begin with a number of 64 bits, parsing a number stops at the first byte with the error `Syntax`
pub judged_fails : (Wrong : Verdict) {old : Stream Seen} {fault : CertFault} →
    (fault ≡ Text Syntax (stream_offset old)) × HasNoNumber old → Stops causes (judged Wrong) old (found_of fault)
judged_fails Wrong h = stops_at_place (stops_there h.1.at h.1.bytes h.1.old_is (go h.1.none)) h.0
  where
    go : (numeral h.1.bytes ≡ []) ⊎ ((0 < run_length h.1.bytes) × (2 ^ 64 ≤ decimal_value (numeral h.1.bytes))) →
        IsFaultAt causes (judged Wrong) [] (first_of (signs (pieces_at h.1.at h.1.bytes))) Syntax
    go (inl none) = nothing_there Wrong h.1.at h.1.bytes none
    go (inr large) = too_large Wrong h.1.at h.1.bytes large.0 large.1

pub judged_wrong : {Wrong : Verdict} → Settled Wrong → {old new : Stream Seen} {n : ℕ} (f : CertCause) {e : CertFault}
    (r : IsNumberRead old new n) → Wrong r.rest n f → ((g : CertCause) → Wrong r.rest n g →
    cause_number f ≤ cause_number g) → e ≡ Text f (stream_offset old) → Stops causes (judged Wrong) old (found_of e)
judged_wrong settled f r wrong first is =
    stops_at_place (stops_there r.at (read_bytes r) r.old_is (wrong_number settled r.at (read_bytes r)
    (read_long r) (read_value r) r.small (read_behind r) wrong first)) is

-- the parser has read a number; `Wrong` states which numbers don't belong to the game
module _ (Wrong : ℕ → Type 0) {old new : Stream Seen} {n : ℕ} (r : IsNumberRead old new n) where
  -- the parser rejects the number if it doesn't belong to the game and a space, a newline or a colon follows it;
  -- otherwise the parser accepts the number
  pub number_reads : (EndsField r.rest → Wrong n → ⊥) → Reads (number Wrong) old n new
  number_reads right = judged_reads (OfOtherGame Wrong) (settled_other Wrong) r (λ f w. right w.1 w.2)

  pub number_wrong : {e : CertFault} → EndsField r.rest → Wrong n → e ≡ Text OtherGame (stream_offset old) →
      Stops causes (number Wrong) old (found_of e)
  number_wrong ended wrong is = judged_wrong (settled_other Wrong) OtherGame r
      (refl, ended, wrong) (λ g w. rw w.0 (omega arith)) is

-- ## The laws

abbrev pub Odd : Seen → Type 0
Odd = Own causes

-- a byte of the text, given as a symbol (`Seen`), is a digit
abbrev pub AtDigit : Seen → Type 0
AtDigit s = IsDigit s.byte

first_digit : (b : ℕ) (bytes digits more : List ℕ) → b ∷ bytes ≡ digits ++ more → IsPlainNumber digits → IsDigit b
first_digit b bytes digits more h k = search (rules, same_head, All-head)

pub laws_judged : (Wrong : Verdict) → Laws Odd (judged Wrong) AtDigit AtDigit ⊥
laws_judged Wrong = record {
  some = judged_begins Wrong;
  one_value = λ text v w h k. h.1 ∙ sym k.1;
  first_text = λ t text v h. All-head IsDigit t.byte (bytes_of text) h.0.0.1;
  first_cause = λ t f c. first_digit t.byte t.behind c.1.digits c.1.more c.1.split c.1.number;
  more_text = λ text more t v w h k. later text more t k.0;
  more_cause = search rules;
  null = λ v h. omega (arith, h.0.0.0);
  behind = λ front t f c. subst (Begins (judged Wrong).IsText) (sym c.0) (judged_begins Wrong);
  plain_text = λ front rest t v h o. none_is_some o.0 o.1;
  plain_cause = λ front t f c o. none_is_some o.0 o.1;
}
  where
    later : (text more : List Seen) (t : Seen) → IsPlainNumber (bytes_of (text ++ t ∷ more)) → IsDigit t.byte
    later text more t h = let all : All IsDigit (bytes_of text ++ t.byte ∷ bytes_of more) =
        subst (All IsDigit) (bytes_append text (t ∷ more)) h.0.1 in All-head IsDigit t.byte (bytes_of more)
        (subst (All IsDigit) (drop-append_seam (bytes_of text) (t.byte ∷ bytes_of more)) (search (rules, All-drop)))

pub laws_number : (Wrong : ℕ → Type 0) → Laws Odd (number Wrong) AtDigit AtDigit ⊥
laws_number Wrong = laws_judged (OfOtherGame Wrong)
