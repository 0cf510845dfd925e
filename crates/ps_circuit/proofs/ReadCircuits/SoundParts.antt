-- If a part of the AIGER grammar finds no error in a text, the value that it parses from the text has the property
-- `Good` that a lemma states. Whether a byte is an error also depends on the bytes after it, so each byte has a list
-- of the bytes after it. `Placed` states that these lists are right.
-- - `Safe part Good`: a value that is parsed without an error has the property `Good`, whatever follows
-- - `Followed part Good`: a value that is parsed without an error has the property `Good` if a space, a tab, a newline
--   or the end follows
-- - `followed_number`, `followed_field`: if a number, or a field, is parsed without an error, the condition `Wrong`
--   does not make its value an error
-- - `safe_then`, `safe_before`, `safe_mapped`, `safe_times`, `safe_many`: a compound part of the grammar is `Safe` if
--   the parts that it consists of are
use Rattle.std.proofs.Common.{◌≡◌, ℕ, zero, suc, ◌+◌, List, [], ◌∷◌, ◌++◌, Some, refl, sym, ap}
use Rattle.std.proofs.Common.{subst, inl, inr, ◌∙◌, append_assoc, arith}
use Rattle.std.proofs.lemmas.Bool.{cases_Bool}
use Rattle.ps_text.specs.Answers.{first_of, signs}
use Rattle.ps_text.specs.Bytes.{Seen, pieces_at, bytes_of, is_digit}
use Rattle.ps_text.specs.Parts.{then_by, times, many, mapped}
use Rattle.ps_text.specs.Runs.{StopsBefore}
use Rattle.ps_text.proofs.BytesAndDigits.Bytes.Pieces.{bytes_append, bytes_at}
use Rattle.ps_text.proofs.Combinators.Simple.{same_some}
use Rattle.ps_circuit.specs.declared.fault.AigCause.{AigCause}
use Rattle.ps_circuit.specs.declared.number.Number.{Number}
use Rattle.ps_circuit.specs.Signs.{Field, gap, number}
use Rattle.ps_circuit.specs.Texts.{field}
use Rattle.ps_circuit.specs.Inner.Reading.{Grown, none, more}
use Rattle.ps_circuit.proofs.ReadCircuits.CircuitParts.{Lawful}
use Rattle.ps_circuit.proofs.ReadCircuits.SignLaws.{Separates, separates_digit}

-- each byte of the text has, in the field `behind`, the list of the bytes that follow it
abbrev pub Placed : List Seen → Type 0
Placed [] = Unit {0}
Placed (s ∷ signs) = (s.behind ≡ bytes_of signs) × Placed signs

pub placed_pieces : (at : ℕ) (bytes : List ℕ) → Placed (signs (pieces_at at bytes))
placed_pieces at [] = tt
placed_pieces at (b ∷ bytes) = (sym (bytes_at (at + 1) bytes), placed_pieces (at + 1) bytes)

placed_right : (front back : List Seen) → Placed (front ++ back) → Placed back
placed_right [] back placed = placed
placed_right (s ∷ front) back placed = placed_right front back placed.1

-- no byte of the text is an error of the grammar's part `part`
abbrev pub Quiet : {V : Type 0} → Field V → List Seen → Type 0
Quiet part text =
    (front back : List Seen) (t : Seen) (f : AigCause) → text ≡ front ++ t ∷ back → part.IsCause front t f → ⊥

pub record Safe {V : Type 0} (part : Field V) (Good : V → Type 0) : Type 0 where
  pub good : (text rest : List Seen) (v : V) → Placed (text ++ rest) → part.IsText text v → Quiet part text → Good v

abbrev pub Parts : List Seen → Type 0
Parts rest = (t : Seen) → first_of rest ≡ Some t → Separates t

pub record Followed {V : Type 0} (part : Field V) (Good : V → Type 0) : Type 0 where
  pub good : (text rest : List Seen) (v : V) → Placed (text ++ rest) → Parts rest → part.IsText text v →
      Quiet part text → Good v

pub safe_any : {V : Type 0} {part : Field V} → Safe part (λ _. Unit {0})
safe_any = record { good = λ text rest v placed h q. tt }

pub safe_as : {V : Type 0} {part : Field V} {G H : V → Type 0} → ((v : V) → G v → H v) → Safe part G → Safe part H
safe_as on s = record { good = λ text rest v placed h q. on v (s.good text rest v placed h q) }

pub safe_mapped : {A B : Type 0} (h : A → B) {P : Field A} {G : A → Type 0} {H : B → Type 0} →
    ((a : A) → G a → H (h a)) → Safe P G → Safe (mapped h P) H
safe_mapped h {H = H} on s = record {
  good = λ text rest v placed i q. subst H (sym i.2) (on i.0 (s.good text rest i.0 placed i.1 q));
}

-- ## Two parts in a row

module _ {A B : Type 0} (P : Field A) (Q : A → Field B) where
  quiet_left : (left right : List Seen) → Quiet (then_by P Q) (left ++ right) → Quiet P left
  quiet_left left right q front back t f e c = q front (back ++ right) t f
      (ap (λ (z : List Seen). z ++ right) e ∙ append_assoc front (t ∷ back) right) (inl c)

  quiet_right : (left right : List Seen) (a : A) → P.IsText left a → Quiet (then_by P Q) (left ++ right) →
      Quiet (Q a) right
  quiet_right left right a h q front back t f e c = q (left ++ front) back t f
      (ap (λ (z : List Seen). left ++ z) e ∙ sym (append_assoc left front (t ∷ back)))
      (inr (record { left = left; right = front; value = a; split = refl; is_left = h; is_cause = c }))

-- if `Placed` holds for a text followed by a rest, and the text consists of two parts, `Placed` also holds for the
-- first part followed by the second part and the rest
placed_parts : (text left right rest : List Seen) → text ≡ left ++ right → Placed (text ++ rest) →
    Placed (left ++ (right ++ rest))
placed_parts text left right rest e placed =
    subst Placed (ap (λ (z : List Seen). z ++ rest) e ∙ append_assoc left right rest) placed

pub safe_then : {A B : Type 0} {P : Field A} {Q : A → Field B} {G : A → Type 0} {H : B → Type 0} → Safe P G →
    ((a : A) → G a → Safe (Q a) H) → Safe (then_by P Q) H
safe_then {P = P} {Q} l r = record {
  good = λ text rest v placed h q.
      let both : Placed (h.left ++ (h.right ++ rest)) = placed_parts text h.left h.right rest h.split placed in
      let quiet : Quiet (then_by P Q) (h.left ++ h.right) = subst (Quiet (then_by P Q)) h.split q in
      (r h.value (l.good h.left (h.right ++ rest) h.value both h.is_left (quiet_left P Q h.left h.right quiet))).good
      h.right rest v (placed_right h.left (h.right ++ rest) both) h.is_right
      (quiet_right P Q h.left h.right h.value h.is_left quiet);
}

-- if a part of the grammar accepts no empty text, and may begin only with a space, a tab or a newline, each text that
-- it accepts begins with one of these bytes
begins : {B : Type 0} (part : Field B) {More : Seen → Type 0} → Lawful part Separates More ⊥ →
    (text rest : List Seen) (b : B) → part.IsText text b → Parts (text ++ rest)
begins part l [] rest b h t e = absurd (l.laws.null b h)
begins part l (s ∷ text) rest b h t e = subst Separates (same_some s t e) (l.laws.first_text s text b h)

pub safe_before : {A B : Type 0} {P : Field A} {Q : A → Field B} {More : Seen → Type 0} {G : A → Type 0}
    {H : B → Type 0} → Followed P G → ((a : A) → Lawful (Q a) Separates More ⊥) →
    ((a : A) → G a → Safe (Q a) H) → Safe (then_by P Q) H
safe_before {P = P} {Q} l laws r = record {
  good = λ text rest v placed h q.
      let both : Placed (h.left ++ (h.right ++ rest)) = placed_parts text h.left h.right rest h.split placed in
      let quiet : Quiet (then_by P Q) (h.left ++ h.right) = subst (Quiet (then_by P Q)) h.split q in
      let parts : Parts (h.right ++ rest) = begins (Q h.value) (laws h.value) h.right rest v h.is_right in
      (r h.value (l.good h.left (h.right ++ rest) h.value both parts h.is_left
      (quiet_left P Q h.left h.right quiet))).good h.right rest v (placed_right h.left (h.right ++ rest) both)
      h.is_right (quiet_right P Q h.left h.right h.value h.is_left quiet);
}

-- ## Numbers

no_digit : (rest : List Seen) → Parts rest → StopsBefore is_digit (bytes_of rest)
no_digit [] parts = tt
no_digit (t ∷ rest) parts = elim (cases_Bool (is_digit t.byte)) [
  | inl digit ↦ absurd (separates_digit t (parts t refl) digit)
  | inr other ↦ other
]

-- the condition `Wrong` does not make the number an error
abbrev pub IsRight : (ℕ → AigCause → Type 0) → Number → Type 0
IsRight Wrong n = (f : AigCause) → Wrong n.value f → ⊥

pub followed_number : (Wrong : ℕ → AigCause → Type 0) → Followed (number Wrong) (IsRight Wrong)
unfolding number
followed_number Wrong = record { good = go }
  where
    go : (text rest : List Seen) (v : Number) → Placed (text ++ rest) → Parts rest → (number Wrong).IsText text v →
        Quiet (number Wrong) text → IsRight Wrong v
    go [] rest v placed parts h q f wrong = omega (arith, h.some)
    go (s ∷ text) rest v placed parts h q f wrong = q [] text s f refl (
      refl,
      record {
        run = bytes_of (s ∷ text);
        begins = record {
          rest = bytes_of rest;
          split = ap (λ (z : List ℕ). s.byte ∷ z) (placed.0 ∙ bytes_append text rest);
          some = omega arith;
          all = h.all;
          longest = no_digit rest parts;
        };
        bad = subst (λ (n : ℕ). Wrong n f) (ap (λ (n : Number). n.value) h.value) wrong;
      },
    )

pub followed_field : (Wrong : ℕ → AigCause → Type 0) → Followed (field Wrong) (IsRight Wrong)
unfolding field
followed_field Wrong = record {
  good = λ text rest v placed parts h q.
      let both : Placed (h.left ++ (h.right ++ rest)) =
      placed_parts text h.left h.right rest h.split placed in
      let quiet : Quiet (field Wrong) (h.left ++ h.right) = subst (Quiet (field Wrong)) h.split q in
      (followed_number Wrong).good h.right rest v (placed_right h.left (h.right ++ rest) both) parts h.is_right
      (quiet_right gap (λ _. number Wrong) h.left h.right h.value h.is_left quiet);
}

-- ## Repetition

grown_before : {C : Type 0} (Adds : C → C → Type 0) (c d : C) {e : C} → Adds c d → Grown Adds d e → Grown Adds c e
grown_before Adds c d a none = more none a
grown_before Adds c d a (more grown b) = more (grown_before Adds c d a grown) b

pub safe_times : {C : Type 0} (item : C → Field C) (Adds : C → C → Type 0) → ((c : C) → Safe (item c) (Adds c)) →
    (n : ℕ) (c : C) → Safe (times n item c) (Grown Adds c)
safe_times item Adds s zero c = record { good = λ text rest v placed h q. subst (Grown Adds c) (sym h.1) none }
safe_times item Adds s (suc n) c = safe_then (s c)
    (λ d a. safe_as (λ e grown. grown_before Adds c d a grown) (safe_times item Adds s n d))

repeated : {C : Type 0} (item : C → Field C) {G : C → Type 0} → ((c : C) → G c → Safe (item c) G) →
    (n : ℕ) (c : C) → G c → Safe (times n item c) G
repeated item {G} s zero c g = record { good = λ text rest v placed h q. subst G (sym h.1) g }
repeated item s (suc n) c g = safe_then (s c g) (λ d h. repeated item s n d h)

pub safe_many : {C : Type 0} (item : C → Field C) {G : C → Type 0} → ((c : C) → G c → Safe (item c) G) →
    (c : C) → G c → Safe (many item c) G
safe_many item s c g = record {
  good = λ text rest v placed h q. (repeated item s h.0 c g).good text rest v placed h.1
      (λ front back t f e k. q front back t f e (h.0, k));
}
