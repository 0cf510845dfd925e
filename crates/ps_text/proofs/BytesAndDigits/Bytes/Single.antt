-- The grammar of a single byte satisfies the laws (`Laws`), and has an outcome for each list of symbols. Parsing this
-- grammar succeeds if the next byte is the given byte, and otherwise fails.
-- - `Odd`: the symbols that are errors wherever they occur; for texts of bytes, this set is empty
-- - `At b, Any`: the set of the symbols with the byte b, and the set of all symbols
-- - `stops_here`: if the next symbol does not begin the grammar, parsing stops at this symbol with the error `syntax`
-- - `byte_reads`, `byte_stops`: the result of parsing the grammar of a byte, if the next byte is this byte, and if it
--   is not
-- - `avoids`, `enters_byte`: the grammar of a byte begins at the next symbol exactly if this symbol has the byte
-- - `refuted`: if a test fails, a statement that implies the test is false
use Rattle.std.proofs.Common.{◌≡◌, ℕ, Bool, true, false, cond, [], Option, Some, None, refl, sym, ap, subst, ◌∙◌, rules}
use Rattle.std.specs.Option.{option_map}
use Rattle.std.proofs.lemmas.Bool.{eq-eqb, eqb-true}
use Rattle.ps_text.specs.Answers.{Stream, signs, next_of}
use Rattle.ps_text.specs.Parts.{Part, NoBad, refusal_of}
use Rattle.ps_text.specs.Readers.{tail, StopsWith, Reads, Stops}
use Rattle.ps_text.specs.Outcomes.{HasOutcomes}
use Rattle.ps_text.specs.Faults.{found_of}
use Rattle.ps_text.specs.declared.faults.Fault.{Fault}
use Rattle.ps_text.specs.declared.faults.Fault.TheVariants.{Text}
use Rattle.ps_text.specs.Bytes.{Seen, byte_causes, take_byte, byte}
use Rattle.ps_text.specs.Cursors.{next_byte, stream_offset}
use Rattle.ps_text.proofs.Combinators.Laws.{Laws, Nothing, Or, Apart, weaker}
use Rattle.ps_text.proofs.Combinators.Simple.{none_is_some, same_some, Taken, BadSign, laws_one, refused}
use Rattle.ps_text.proofs.Combinators.Covered.{Avoids, Enters, enters_one}
use Rattle.ps_text.proofs.ParsedAnswers.Exits.{reads_next}
use Rattle.ps_text.proofs.ParsedAnswers.Outcomes.{has_one}
use Rattle.ps_text.proofs.ParsedAnswers.Decisions.{judge_none}

pub refuted : {A : Type 0} {truth : Bool} → (A → truth ≡ true) → truth ≡ false → A → ⊥
refuted f e a = let y : true ≡ false = sym (f a) ∙ e in cc

abbrev pub Odd : Type 0 → Seen → Type 0
Odd C s = (f : C) × (None ≡ Some f)

pub not_odd : (C : Type 0) (A : Seen → Type 0) → Apart A (Odd C)
not_odd C A t a o = none_is_some o.0 o.1

abbrev pub At : ℕ → Seen → Type 0
At b s = s.byte ≡ b

abbrev pub Any : Seen → Type 0
Any s = Unit {0}

-- a symbol with the byte b
abbrev pub seen : ℕ → Seen
seen b = record { byte = b; at = 0; behind = [] }

-- the grammar of a byte accepts this byte if it is next
pub byte_taken : {b : ℕ} (sign : Seen) → sign.byte ≡ b → take_byte b sign ≡ Some tt
byte_taken {b} s e = ap (λ x. cond x (Some tt) None) (eq-eqb s.byte b e)

pub taken_byte : {b : ℕ} (s : Seen) {u : Unit {0}} → take_byte b s ≡ Some u → s.byte ≡ b
taken_byte {b} s {u} e = search (rules, eqb-true)

pub next_is : {b : ℕ} (o : Option Seen) → option_map (λ s. s.byte) o ≡ Some b → (t : Seen) × (o ≡ Some t) × (t.byte ≡ b)
next_is o h = search (rules, none_is_some, same_some)

-- ## Where a grammar begins, and where it does not

pub avoids : (byte : ℕ) (old : Stream Seen) → (next_byte old ≡ Some byte → ⊥) → Avoids (At byte) (next_of old)
avoids b old none t n h = none (ap (option_map (λ (s : Seen). s.byte)) n ∙ ap Some h)

pub enters_byte : (C : Type 0) (b : ℕ) (old : Stream Seen) → next_byte old ≡ Some b →
    Enters (byte {C = C} b) (next_of old)
unfolding byte
enters_byte C b old e = search (rules, next_is, Enters, enters_one, byte_taken)

-- ## Laws

module _ {C : Type 0} where
  pub laws_byte : (b : ℕ) → Laws {F = C} (Odd C) (byte b) (At b) Nothing ⊥
  unfolding byte
  laws_byte b = weaker (laws_one (take_byte b) NoBad (Odd C) (seen b) tt (byte_taken (seen b) refl)
      (not_odd C (Taken (take_byte b))) (not_odd C (BadSign NoBad))) first (λ t h. h) (λ n. n)
    where
      first : (t : Seen) → Or (Taken (take_byte b)) (BadSign {F = C} NoBad) t → At b t
      first t h = search (rules, taken_byte)

module _ {C : Type 0} (number : C → ℕ) (syntax : C) where
  -- ## Outcomes

  pub has_byte : (b : ℕ) → HasOutcomes (byte_causes number syntax) (byte b)
  unfolding byte
  has_byte b = has_one (byte_causes number syntax) (take_byte b) NoBad (seen b) tt (byte_taken (seen b) refl)
      (λ t. judge_none number)

  -- ## A grammar that does not begin

  refusal_is : (there : Option Seen) → syntax ≡ refusal_of (byte_causes number syntax) there
  refusal_is None = refl
  refusal_is (Some t) = refl

  pub stops_here : {V : Type 0} {P : Part Seen V C} {First More : Seen → Type 0} → Laws (Odd C) P First More ⊥ →
      {old : Stream Seen} → ((t : Seen) → next_of old ≡ Some t → First t → ⊥) →
      StopsWith (byte_causes number syntax) P old (record { cause = syntax; offset = stream_offset old })
  stops_here {P = P} l {old} none =
      subst (λ f. StopsWith (byte_causes number syntax) P old (record { cause = f; offset = stream_offset old }))
      (sym (refusal_is (next_of old))) (record {
        front = [];
        rest = old.pieces;
        split = refl;
        fault = refused l (byte_causes number syntax) (signs old.pieces) none;
        offset = refl;
      })

pub byte_reads : {C : Type 0} {b : ℕ} {old new : Stream Seen} → next_byte old ≡ Some b → new ≡ tail old →
    Reads (byte {C = C} b) old tt new
unfolding byte
byte_reads {b = b} {old = old} {new = new} e n =
    let t = next_is (next_of old) e in
    reads_next (take_byte b) NoBad old new t.0 tt t.1 n (byte_taken t.0 t.2) (λ f h. h)

pub byte_stops : {C : Type 0} (number : C → ℕ) {syntax : C} (b : ℕ) (old : Stream Seen) {e : Fault C} →
    (next_byte old ≡ Some b → ⊥) → e ≡ Text syntax (stream_offset old) →
    Stops (byte_causes number syntax) (byte b) old (found_of e)
byte_stops number {syntax} b old none is = subst
    (λ x. Stops (byte_causes number syntax) (byte b) old (found_of x)) (sym is)
    (stops_here number syntax (laws_byte b) (avoids b old none))
