-- Lemmas about the functions that parse the small parts of a certificate's text byte by byte, including the cases in
-- which they fail.
-- - `two_first`, `two_second`, `two_fails`: `take_two` allows either of two bytes; the next byte is the first of them,
--   is the second, or is neither, so that parsing fails
-- - `zero_passed`, `digits_passed`, `none_passed`: the function for numbers reads a single 0, reads digits, or finds no
--   number
-- - `end_reads`, `end_missing`, `end_fails`: lemmas for the end of a line of priorities: it is read, some priorities
--   are missing, or another byte comes
-- - `ends_true`, `ends_false`: the test of the function `ends` tells correctly whether a field ends here
use Rattle.std.proofs.Common.{◌≡◌, ℕ, ◌+◌, ◌^◌, ◌<◌, ◌≤◌, ◌⊎◌, Bool, true, false, List, [], ◌∷◌, ◌++◌, length, take}
use Rattle.std.proofs.Common.{Some, refl, sym, ap, inl, inr, ◌∙◌, arith, rules}
use Rattle.std.proofs.Math.Seq.{take-append_seam}
use Rattle.std.specs.Char.{is_ascii_digit}
use Rattle.std.proofs.lemmas.Bool.{ne_eqb, eqb-true, eqb-false}
use Rattle.ps_text.specs.Answers.{Stream, first_of, next_of, offset_of}
use Rattle.ps_text.specs.Parts.{NoBad, one}
use Rattle.ps_text.specs.Readers.{tail, tail_of, Reads, Stops}
use Rattle.ps_text.specs.Faults.{found_of}
use Rattle.ps_text.specs.Digits.{decimal_value}
use Rattle.ps_text.specs.declared.faults.Fault.TheVariants.{Text}
use Rattle.ps_text.specs.Bytes.{Seen, pieces_at, take_byte, is_digit}
use Rattle.ps_text.specs.Cursors.{next_byte, stream_offset, IsAhead, Passes}
use Rattle.ps_text.proofs.BytesAndDigits.ByteRuns.{run_len}
use Rattle.ps_text.proofs.Combinators.Laws.{Or}
use Rattle.ps_text.proofs.Combinators.Simple.{none_is_some, same_some}
use Rattle.ps_text.proofs.ParsedAnswers.Exits.{reads_next, stops_bad}
use Rattle.ps_text.proofs.BytesAndDigits.Bytes.Pieces.{next_at}
use Rattle.ps_text.proofs.BytesAndDigits.Bytes.Single.{At, byte_taken, next_is, avoids, stops_here}
use Rattle.ps_certificate.specs.declared.fault.CertCause.TheVariants.{Syntax, OtherGame}
use Rattle.ps_certificate.specs.Faults.{CertFault, cause_number}
use Rattle.ps_certificate.specs.Inner.Reading.{is_end, comes, numeral, IsNumberRead, HasNoNumber}
use Rattle.ps_certificate.specs.Texts.{causes, EndsField, take_two, two, IsMissing}
use Rattle.ps_certificate.proofs.ReadCertificates.NumberPart.{stops_at_place}
use Rattle.ps_certificate.proofs.ReadCertificates.TextLaws.{lawful_two, lawful_newline, first_taken, second_taken}

-- ## One of two bytes

module _ {V : Type 0} (a b : ℕ) (v w : V) (old : Stream Seen) where
  pub two_first : {new : Stream Seen} → next_byte old ≡ Some a → new ≡ tail old → Reads (two a b v w) old v new
  two_first {new} e next =
      let t = next_is (next_of old) e in
      reads_next (take_two a b v w) NoBad old new t.0 v t.1 next (first_taken b w t.0 t.2) (λ f x. x)

  pub two_second : {new : Stream Seen} → (a ≡ b → ⊥) → next_byte old ≡ Some b → new ≡ tail old →
      Reads (two a b v w) old w new
  two_second {new} other e next =
      let t = next_is (next_of old) e in
      reads_next (take_two a b v w) NoBad old new t.0 w t.1 next (second_taken a v t.0 other t.2) (λ f x. x)

  pub two_fails : {e : CertFault} → (next_byte old ≡ Some a → ⊥) → (next_byte old ≡ Some b → ⊥) →
      e ≡ Text Syntax (stream_offset old) → Stops causes (two a b v w) old (found_of e)
  two_fails h k is = stops_at_place (stops_here cause_number Syntax (lawful_two a b v w).laws none) is
    where
      none : (t : Seen) → next_of old ≡ Some t → Or (At a) (At b) t → ⊥
      none t n (inl e) = avoids a old h t n e
      none t n (inr e) = avoids b old k t n e

-- ## Numbers

pub zero_passed : {old new : Stream Seen} → next_byte old ≡ Some 48 → IsAhead old → new ≡ tail old →
    IsNumberRead old new 0
zero_passed {old} {new} e ahead next = go ahead.0 ahead.1 ahead.2
  where
    go : (at : ℕ) (bytes : List ℕ) → old.pieces ≡ pieces_at at bytes → IsNumberRead old new 0
    go at [] x = absurd (none_is_some 48 (sym (next_at old at [] x) ∙ e))
    go at (b ∷ more) x =
        let zero : b ≡ 48 = same_some b 48 (sym (next_at old at (b ∷ more) x) ∙ e) in
        let there : old.pieces ≡ pieces_at at (48 ∷ more) = x ∙ ap (λ c. pieces_at at (c ∷ more)) zero in
        record {
          at = at;
          digits = 48 ∷ [];
          rest = more;
          old_is = there;
          new_is = ap (λ s. s.pieces) next ∙ ap tail_of there;
          end = ap (λ s. s.end) next;
          place = sym (ap (λ ps. offset_of ps old.end) there);
          whole = refl;
          some = omega arith;
          value = refl;
          small = omega arith;
        }

module _ {old new : Stream Seen} {digits : List ℕ} (other : next_byte old ≡ Some 48 → ⊥)
    (x : Passes is_digit old new digits) where
  no_zero : (at : ℕ) (bytes : List ℕ) → old.pieces ≡ pieces_at at bytes → comes 48 bytes ≡ false
  no_zero at [] e = refl
  no_zero at (b ∷ more) e = ne_eqb b 48 (λ z. other (next_at old at (b ∷ more) e ∙ ap Some z))

  -- a maximal run of digits that doesn't begin with 0 is the longest number with which the bytes begin
  whole_run : numeral (digits ++ x.rest) ≡ digits
  whole_run = rw (no_zero x.at (digits ++ x.rest) x.old_is)
      (ap (λ n. take n (digits ++ x.rest)) (run_len is_ascii_digit digits x.rest x.all x.longest) ∙
      take-append_seam digits x.rest)

  pub digits_passed : {n : ℕ} → 0 < length digits → n ≡ decimal_value digits → n < 2 ^ 64 → IsNumberRead old new n
  digits_passed some value small = record {
    at = x.at;
    digits = digits;
    rest = x.rest;
    old_is = x.old_is;
    new_is = x.new_is;
    end = x.end;
    place = x.place;
    whole = whole_run;
    some = some;
    value = value;
    small = small;
  }

  pub none_passed : (digits ≡ []) ⊎ ((0 < length digits) × (2 ^ 64 ≤ decimal_value digits)) → HasNoNumber old
  none_passed h = record {
    at = x.at;
    bytes = digits ++ x.rest;
    old_is = x.old_is;
    none = rw whole_run h;
  }

-- ## The end of a line of priorities

module _ (left : List ℕ) (old : Stream Seen) where
  pub end_reads : {new : Stream Seen} → next_byte old ≡ Some 10 → new ≡ tail old → length left ≡ 0 →
      Reads (one (take_byte 10) (IsMissing left)) old tt new
  end_reads {new} e next none =
      let t = next_is (next_of old) e in
      reads_next (take_byte 10) (IsMissing left) old new t.0 tt t.1 next (byte_taken t.0 t.2)
      (λ f x. omega (arith, x.1, none))

  pub end_fails : {e : CertFault} → (next_byte old ≡ Some 10 → ⊥) → e ≡ Text Syntax (stream_offset old) →
      Stops causes (one (take_byte 10) (IsMissing left)) old (found_of e)
  end_fails h is = stops_at_place (stops_here cause_number Syntax (lawful_newline left).laws (avoids 10 old h)) is

  pub end_missing : {e : CertFault} → next_byte old ≡ Some 10 → 0 < length left →
      e ≡ Text OtherGame (stream_offset old) →
      Stops causes (one (take_byte 10) (IsMissing left)) old (found_of e)
  end_missing {e} h some is =
      let t = next_is (next_of old) h in
      stops_bad causes (take_byte 10) (IsMissing left) old t.0 OtherGame (found_of e) t.1 (t.2, some, refl)
      (λ g k. rw k.2 (omega arith)) (ap found_of is)

-- ## The end of a field

module _ {old new : Stream Seen} {n : ℕ} (r : IsNumberRead old new n) where
  next_end : (rest : List ℕ) → new.pieces ≡ pieces_at (r.at + length r.digits) rest → {b : Bool} →
      is_end (next_byte new) ≡ b → is_end (first_of rest) ≡ b
  next_end rest e h = ap is_end (sym (next_at new (r.at + length r.digits) rest e)) ∙ h

  pub ends_true : is_end (next_byte new) ≡ true → EndsField r.rest
  ends_true h = go r.rest (next_end r.rest r.new_is h)
    where
      go : (rest : List ℕ) → is_end (first_of rest) ≡ true → EndsField rest
      go rest h = search (rules, eqb-true)

  pub ends_false : is_end (next_byte new) ≡ false → EndsField r.rest → ⊥
  ends_false h k = go r.rest (next_end r.rest r.new_is h) k
    where
      go : (rest : List ℕ) → is_end (first_of rest) ≡ false → EndsField rest → ⊥
      go rest h k = search (rules, eqb-false)
