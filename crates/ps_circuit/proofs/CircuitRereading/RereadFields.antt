-- Lemmas about parsing the fields of a line that the circuit writer has written.
-- - `from e at text`: the bytes of `text` as parser input, from the offset `at` to the end `e`
-- - `Rereads part Good text rest`: parsing the grammar's part `part` at the beginning of `text` gives a value with the
--   property `Good`, and leaves `rest`
-- - `reread_then`, `reread_mapped`: `Rereads` holds for two parts together, one after the other, if it holds for each;
--   it also holds for a part whose value is mapped by a function
-- - `reread_as`: if `Rereads` holds for a text, it holds for every text that equals it
-- - `reread_branch`: `Rereads` holds for a choice of two parts if it holds for the part that the next byte selects
-- - `number_then`, `field_then`: a written number, or a space and a number, is parsed, and so is the part after it
-- - `reread_end`: the newline is parsed as the end of a line; `reread_more`, `reread_no_more`: the parser finds that a
--   further field follows, or that the line ends
use Rattle.std.proofs.Common.{◌≡◌, ℕ, ◌+◌, ◌^◌, ◌<◌, Bool, true, false, List, [], ◌∷◌, ◌++◌, length, refl, sym, ap}
use Rattle.std.proofs.Common.{subst, ◌∙◌, arith, rules}
use Rattle.std.specs.Prelude.{decimal}
use Rattle.std.proofs.lemmas.Bool.{eqb-true}
use Rattle.ps_text.specs.Answers.{Stream, next_of, first_of, signs}
use Rattle.ps_text.specs.Parts.{NoBad, give, then_by, mapped}
use Rattle.ps_text.specs.Readers.{Reads}
use Rattle.ps_text.specs.Runs.{AllOf, StopsBefore}
use Rattle.ps_text.proofs.BytesAndDigits.Decimals.{number_text}
use Rattle.ps_text.proofs.Combinators.Simple.{same_some, laws_give}
use Rattle.ps_text.proofs.Combinators.Covered.{Avoids}
use Rattle.ps_text.proofs.ParsedAnswers.Exits.{reads_give, reads_mapped, reads_then, reads_next}
use Rattle.ps_text.proofs.ParsedAnswers.Branches.{Stands, reads_as, right_otherwise, left_otherwise}
use Rattle.ps_circuit.specs.declared.number.Number.{Number}
use Rattle.ps_circuit.specs.declared.fault.AigCause.{AigCause}
use Rattle.ps_text.specs.Bytes.{Seen, pieces_at, take_byte, byte, word, is_digit, is_space, NoBadRun, run}
use Rattle.ps_circuit.specs.Signs.{Field, number, gap, newline, line_end, more}
use Rattle.ps_circuit.specs.Texts.{field}
use Rattle.ps_text.specs.Cursors.{Passes, stream_offset}
use Rattle.ps_circuit.proofs.ReadCircuits.CircuitParts.{Odd, Judges, Chain}
use Rattle.ps_text.proofs.BytesAndDigits.Bytes.Runs.{run_reads}
use Rattle.ps_circuit.proofs.ReadCircuits.CircuitTextLaws.{chain_field}
use Rattle.ps_text.proofs.BytesAndDigits.Bytes.Single.{At, byte_taken}
use Rattle.ps_text.proofs.BytesAndDigits.Bytes.Lawful.{chain_word}
use Rattle.ps_circuit.proofs.ReadCircuits.SignLaws.{AtSpace, AtDigit, laws_gap, space_newline, ends_here}
use Rattle.ps_circuit.proofs.ReadCircuits.SignLaws.{laws_ends_here}
use Rattle.ps_circuit.proofs.ReadCircuits.SignLaws.{chain_line_end, chain_gap_more}

abbrev pub from : ℕ → ℕ → List ℕ → Stream Seen
from e at text = record { pieces = pieces_at at text; end = e }

pub record Reread {V : Type 0} (part : Field V) (Good : V → Type 0) (text rest : List ℕ) (e at : ℕ) : Type 0 where
  pub value : V
  pub good : Good value
  pub to : ℕ
  pub reads : Reads part (from e at text) value (from e to rest)

pub record Rereads {V : Type 0} (part : Field V) (Good : V → Type 0) (text rest : List ℕ) : Type 0 where
  pub there : (e at : ℕ) → Reread part Good text rest e at

pub reread_then : {A B : Type 0} {P : Field A} {Q : A → Field B} {First More : Seen → Type 0} {Null : Type 0}
    {GoodA : A → Type 0} {GoodB : B → Type 0} {text mid rest : List ℕ} → Chain P Q First More Null →
    Rereads P GoodA text mid → ((a : A) → GoodA a → Rereads (Q a) GoodB mid rest) →
    Rereads (then_by P Q) GoodB text rest
reread_then j w k = record {
  there = λ e at.
      let a = w.there e at in
      let b = (k a.value a.good).there e a.to in
      record { value = b.value; good = b.good; to = b.to; reads = reads_then j.joint a.reads b.reads };
}

pub reread_mapped : {A B : Type 0} {P : Field A} {GoodA : A → Type 0} {GoodB : B → Type 0} {text rest : List ℕ}
    (h : A → B) → Rereads P GoodA text rest → ((a : A) → GoodA a → GoodB (h a)) → Rereads (mapped h P) GoodB text rest
reread_mapped h w k = record {
  there = λ e at.
      let a = w.there e at in
      record { value = h a.value; good = k a.value a.good; to = a.to; reads = reads_mapped h a.reads };
}

pub reread_as : {V : Type 0} {P : Field V} {Good : V → Type 0} {text other rest : List ℕ} → other ≡ text →
    Rereads P Good text rest → Rereads P Good other rest
reread_as {P = P} {Good = Good} {rest = rest} same w = subst (λ t. Rereads P Good t rest) (sym same) w

pub reread_branch : {V : Type 0} {P Q : Field V} {Good : V → Type 0} {text rest : List ℕ} →
    ((at : ℕ) → Stands (first_of (signs (pieces_at at text))) P Q) → Rereads P Good text rest → Rereads Q Good text rest
reread_branch s w = record {
  there = λ e at.
      let a = w.there e at in
      record { value = a.value; good = a.good; to = a.to; reads = reads_as (s at) a.reads };
}

pub reread_give : {V : Type 0} {Good : V → Type 0} (v : V) {rest : List ℕ} → Good v → Rereads (give v) Good rest rest
reread_give v {rest} g =
    record { there = λ e at. record { value = v; good = g; to = at; reads = reads_give (from e at rest) v } }

-- the property that holds for every value
abbrev pub AnyValue : {V : Type 0} → V → Type 0
AnyValue v = Unit {0}

-- ## Runs

place_is : (e : ℕ) {at : ℕ} (run rest : List ℕ) → 0 < length run → at ≡ stream_offset (from e at (run ++ rest))
place_is e [] rest some = absurd (omega arith)
place_is e (b ∷ run) rest some = refl

pub reread_run : {V : Type 0} (p : ℕ → Bool) (see : ℕ → List ℕ → V) (Bad : List ℕ → AigCause → Type 0)
    {Good : V → Type 0} (text : List ℕ) {rest : List ℕ} → 0 < length text → AllOf p text → StopsBefore p rest →
    ((f : AigCause) → Bad text f → ⊥) → ((at : ℕ) → Good (see at text)) →
    Rereads (run p see Bad) Good (text ++ rest) rest
reread_run p see Bad text {rest} some all longest clean good = record {
  there = λ e at.
      let passes : Passes p (from e at (text ++ rest)) (from e (at + length text) rest) text =
      grind (arith, place_is) in
      record {
        value = see at text;
        good = good at;
        to = at + length text;
        reads = run_reads p see Bad passes some clean (ap (λ z. see z text) (place_is e text rest some));
      };
}

-- a digit is not a space
digit_no_space : (b : ℕ) → is_digit b ≡ true → is_space b ≡ false
digit_no_space b h = search (rules, eqb-true)

digits_no_space : (digits rest : List ℕ) → 0 < length digits → AllOf is_digit digits →
    StopsBefore is_space (digits ++ rest)
digits_no_space [] rest some all = absurd (omega arith)
digits_no_space (b ∷ digits) rest some all = digit_no_space b all.0

abbrev pub HasValue : ℕ → Number → Type 0
HasValue n x = x.value ≡ n

-- the number fits into 64 bits, and the condition `Wrong` does not make it an error
pub record IsGood (Wrong : ℕ → AigCause → Type 0) (n : ℕ) : Type 0 where
  pub small : n < 2 ^ 64
  pub right : (f : AigCause) → Wrong n f → ⊥

pub reread_number : {Wrong : ℕ → AigCause → Type 0} (n : ℕ) {rest : List ℕ} → IsGood Wrong n →
    StopsBefore is_digit rest → Rereads (number Wrong) (HasValue n) (decimal n ++ rest) rest
unfolding number
reread_number {Wrong} n g longest = search (rules, number_text, reread_run)

pub number_then : {B : Type 0} {Wrong : ℕ → AigCause → Type 0} {Q : Number → Field B} {First More : Seen → Type 0}
    {Null : Type 0} {Good : B → Type 0} {mid rest : List ℕ} → Chain (number Wrong) Q First More Null → (n : ℕ) →
    IsGood Wrong n → StopsBefore is_digit mid → ((x : Number) → x.value ≡ n → Rereads (Q x) Good mid rest) →
    Rereads (then_by (number Wrong) Q) Good (decimal n ++ mid) rest
number_then j n g longest k = reread_then j (reread_number n g longest) k

-- ## Bytes

pub reread_byte : (b : ℕ) {rest : List ℕ} → Rereads (byte b) AnyValue (b ∷ rest) rest
unfolding byte
reread_byte b {rest} = record {
  there = λ e at.
      let s : Seen = record { byte = b; at = at; behind = rest } in
      record {
        value = tt;
        good = tt;
        to = at + 1;
        reads = reads_next (take_byte b) NoBad (from e at (b ∷ rest)) (from e (at + 1) rest) s tt refl refl
            (byte_taken s refl) (λ f x. x);
      };
}

pub reread_newline : {rest : List ℕ} → Rereads newline AnyValue (10 ∷ rest) rest
unfolding newline
reread_newline = reread_byte 10

pub reread_word : (bytes : List ℕ) {rest : List ℕ} → Rereads (word bytes) AnyValue (bytes ++ rest) rest
reread_word [] = reread_give tt tt
reread_word (b ∷ bytes) = reread_then (chain_word b bytes) (reread_byte b) (λ _ _. reread_word bytes)

-- the single space that the writer puts before a number is parsed as a gap
reread_space : (n : ℕ) (rest : List ℕ) → n < 2 ^ 64 → Rereads gap AnyValue (32 ∷ decimal n ++ rest) (decimal n ++ rest)
unfolding gap
reread_space n rest small =
    let t = number_text n small in
    reread_run is_space (λ at bytes. tt) NoBadRun (32 ∷ []) (omega arith) (refl, tt)
    (digits_no_space (decimal n) rest t.some t.pass) (λ f x. x) (λ at. tt)

-- if the byte b is not in the set A, the next byte of a text that begins with b is not in A
avoids_at : (A : Seen → Type 0) (e at b : ℕ) (rest : List ℕ) → ((t : Seen) → t.byte ≡ b → A t → ⊥) →
    Avoids A (next_of (from e at (b ∷ rest)))
avoids_at A e at b rest none t x a = none t (ap (λ (s : Seen). s.byte) (sym (same_some _ t x))) a

avoids_digits : (A : Seen → Type 0) (e at : ℕ) (digits rest : List ℕ) → 0 < length digits → AllOf is_digit digits →
    ((t : Seen) → AtDigit t → A t → ⊥) → Avoids A (next_of (from e at (digits ++ rest)))
avoids_digits A e at [] rest some all none = absurd (omega arith)
avoids_digits A e at (b ∷ digits) rest some all none = search (rules, avoids_at)

pub field_then : {B : Type 0} {Wrong : ℕ → AigCause → Type 0} {Q : Number → Field B} {First More : Seen → Type 0}
    {Null : Type 0} {Good : B → Type 0} {mid rest : List ℕ} → Judges Wrong → Chain (field Wrong) Q First More Null →
    (n : ℕ) → IsGood Wrong n → StopsBefore is_digit mid → ((x : Number) → x.value ≡ n → Rereads (Q x) Good mid rest) →
    Rereads (then_by (field Wrong) Q) Good (32 ∷ decimal n ++ mid) rest
unfolding field
field_then {mid = mid} judge j n g longest k =
    reread_then j (reread_then (chain_field judge) (reread_space n mid g.small) (λ _ _. reread_number n g longest)) k

no_space_newline : (e at : ℕ) (rest : List ℕ) → Avoids AtSpace (next_of (from e at (10 ∷ rest)))
no_space_newline e at rest = avoids_at AtSpace e at 10 rest (λ t x a. space_newline t a x)

pub reread_end : {rest : List ℕ} → Rereads line_end AnyValue (10 ∷ rest) rest
unfolding line_end
reread_end {rest} = reread_then {GoodA = AnyValue} chain_line_end (reread_branch (λ at. right_otherwise laws_gap.laws
    (laws_give Odd tt) _ (no_space_newline 0 at rest) (λ n. n)) (reread_give tt tt)) (λ _ _. reread_newline)

reread_ends_here : {rest : List ℕ} → Rereads ends_here (λ v. v ≡ false) (10 ∷ rest) rest
reread_ends_here = reread_mapped (λ _. false) reread_newline (λ _ _. refl)

pub reread_no_more : {rest : List ℕ} → Rereads more (λ v. v ≡ false) (10 ∷ rest) rest
unfolding more
reread_no_more {rest} = reread_branch (λ at. left_otherwise laws_ends_here.laws chain_gap_more.whole.laws _
    (no_space_newline 0 at rest) (λ n. n)) reread_ends_here

digit_newline : (t : Seen) → AtDigit t → At 10 t → ⊥
digit_newline t d e = let h : is_digit 10 ≡ true = ap is_digit (sym e) ∙ d in cc

-- a space and a number after a field are parsed as a further field
pub reread_more : (n : ℕ) (rest : List ℕ) → n < 2 ^ 64 →
    Rereads more (λ v. v ≡ true) (32 ∷ decimal n ++ rest) (decimal n ++ rest)
unfolding more
reread_more n rest small =
    let t = number_text n small in
    reread_branch (λ at. right_otherwise laws_ends_here.laws chain_gap_more.whole.laws _
    (avoids_at (At 10) 0 at 32 (decimal n ++ rest) (λ t x a. omega (arith, x, a))) (λ n. n)) (reread_then chain_gap_more
    (reread_space n rest small) (λ _ _. reread_branch (λ at. right_otherwise laws_ends_here.laws (laws_give Odd true) _
    (avoids_digits (At 10) 0 at (decimal n) rest t.some t.pass digit_newline) (λ n. n)) (reread_give true refl)))
