-- The exits of a parsing function, in terms of the remainder of the grammar that is still to be parsed.
-- - `Left number syntax whole start left now`: each result of parsing the grammar `left` from `now` is a result of
--   parsing `whole` from `start`
-- - `unread`, `past`: at the start, the whole grammar is still to be parsed; after the first of two grammars was
--   parsed, the second one is still to be parsed
-- - `stops_at`, `exits_at`: if the next grammar fails, the whole grammar fails with the same error
-- - `stops_last`, `exits_last`, `reads_last`: the results if only one grammar is left, and a function is applied to its
--   value
-- - `branch`: if the next symbol decides for one of several alternatives, only this alternative is left
-- - `word_left`, `word_read`: a loop parses a word byte by byte; before each byte, the rest of the word is left, and
--   after the last byte, the word has been read
use Rattle.std.proofs.Common.{◌≡◌, ℕ, ◌+◌, ◌<◌, ◌≤◌, List, ◌∷◌, length, get_or, drop, Option, Result, Ok, Err, IsErrAnd}
use Rattle.std.proofs.Common.{sym, subst, rules}
use Rattle.std.proofs.lemmas.List.{drop_more, drop_all}
use Rattle.ps_text.specs.Answers.{Stream, Found, signs, next_of}
use Rattle.ps_text.specs.Parts.{Part, IsRead, then_by, mapped}
use Rattle.ps_text.specs.Readers.{Reads, Stops, Meets, Carries}
use Rattle.ps_text.specs.Faults.{found_of}
use Rattle.ps_text.specs.declared.faults.Fault.{Fault}
use Rattle.ps_text.specs.Bytes.{Seen, byte_causes, word}
use Rattle.ps_text.proofs.ParsedAnswers.Exits.{exits, reads_give, reads_mapped, stops_mapped, stops_first}
use Rattle.ps_text.proofs.ParsedAnswers.Exits.{carries_start}
use Rattle.ps_text.proofs.ParsedAnswers.Exits.{carries_then}
use Rattle.ps_text.proofs.ParsedAnswers.Branches.{Stands, reads_as, stops_as_well}
use Rattle.ps_text.proofs.BytesAndDigits.Bytes.Lawful.{Chain}

pub value_is : {V C : Type 0} {P : Part Seen V C} {old new : Stream Seen} {v w : V} → v ≡ w → Reads P old v new →
    Reads P old w new
value_is {P = P} {old = old} {new = new} e m =
    (m.0, subst (λ x. IsRead P (signs old.pieces) x (signs new.pieces)) e m.1)

pub record Left {V C : Type 0} (number : C → ℕ) (syntax : C) (whole : Part Seen V C) (start : Stream Seen)
    (left : Part Seen V C) (now : Stream Seen) : Type 0 where
  pub carries : Carries (byte_causes number syntax) whole start left now

module _ {C : Type 0} {number : C → ℕ} {syntax : C} where
  pub unread : {V : Type 0} {P : Part Seen V C} {s : Stream Seen} → Left number syntax P s P s
  unread {P = P} {s = s} = record { carries = carries_start (byte_causes number syntax) P s }

  module _ {A V : Type 0} {P : Part Seen A C} {Q : A → Part Seen V C} {First More : Seen → Type 0} {Null : Type 0}
      (j : Chain number syntax P Q First More Null) {whole : Part Seen V C} {start now : Stream Seen}
      (l : Left number syntax whole start (then_by P Q) now) where
    pub past : {first : A} {next : Stream Seen} → Reads P now first next → Left number syntax whole start (Q first) next
    past m = record { carries = carries_then (byte_causes number syntax) j.joint l.carries m }

    pub stops_at : (stop : Option (Found C)) → Stops (byte_causes number syntax) P now stop →
        Stops (byte_causes number syntax) whole start stop
    stops_at o m = l.carries (Err o) now (stops_first (byte_causes number syntax) j.joint now o m)

    pub exits_at : {X : Type 0} (view : X → V) (new : Stream Seen) (fault : Fault C) (result : Result X (Fault C)) →
        Stops (byte_causes number syntax) P now (found_of fault) → IsErrAnd result (λ y. y ≡ fault) →
        Meets found_of (byte_causes number syntax) view whole start result new
    exits_at view new e r m i =
        exits found_of (byte_causes number syntax) view whole start new e r (stops_at (found_of e) m) i

  module _ {A V : Type 0} (h : A → V) {P : Part Seen A C} {whole : Part Seen V C} {start now : Stream Seen}
      (l : Left number syntax whole start (mapped h P) now) where
    pub stops_last : (o : Option (Found C)) → Stops (byte_causes number syntax) P now o →
        Stops (byte_causes number syntax) whole start o
    stops_last o m = l.carries (Err o) now (stops_mapped (byte_causes number syntax) h P now o m)

    pub exits_last : {X : Type 0} (view : X → V) (new : Stream Seen) (fault : Fault C) (result : Result X (Fault C)) →
        Stops (byte_causes number syntax) P now (found_of fault) → IsErrAnd result (λ y. y ≡ fault) →
        Meets found_of (byte_causes number syntax) view whole start result new
    exits_last view new e r m i =
        exits found_of (byte_causes number syntax) view whole start new e r (stops_last (found_of e) m) i

    pub reads_last : {last : A} {value : V} {new : Stream Seen} → Reads P now last new → value ≡ h last →
        Reads whole start value new
    reads_last {last = a} {value = v} {new} m e = value_is (sym e) (l.carries (Ok (h a)) new (reads_mapped h m))

  pub branch : {V : Type 0} {P Q whole : Part Seen V C} {start now : Stream Seen} →
      Left number syntax whole start Q now → Stands (next_of now) P Q → Left number syntax whole start P now
  branch {V} {P} {Q} {whole} {start} {now} l w = search (rules, reads_as, stops_as_well)

  -- ## Words, byte by byte

  pub word_left : (text : List ℕ) (i : ℕ) {start now : Stream Seen} → i < length text →
      Left number syntax (word text) start (word (drop i text)) now →
      Left number syntax (word text) start (word (get_or text i 0 ∷ drop (i + 1) text)) now
  word_left text i {start} {now} lt l =
      subst (λ z. Left number syntax (word text) start (word z) now) (drop_more text i 0 lt) l

  pub word_read : (text : List ℕ) (i : ℕ) {start now : Stream Seen} → length text ≤ i →
      Left number syntax (word text) start (word (drop i text)) now → Reads {F = C} (word text) start tt now
  word_read text i {start} {now} le l = (subst (λ z. Left number syntax (word text) start (word z) now)
      (drop_all i text le) l).carries (Ok tt) now (reads_give now tt)
