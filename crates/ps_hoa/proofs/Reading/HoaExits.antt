-- Lemmas about the ways in which a parsing function of HOA texts can return.
-- - `Serves old P Q`: each result of parsing P from `old` on, be it a value or an error, is also a result of parsing Q
-- - `serves_as`, `itself`, `serves_both`: `Serves` holds if `Stands` holds for the two parts at the next token;
--   `Serves` is reflexive and transitive
-- - `serves_meets`: if `Serves old P Q` holds, a result that meets the contract of P also meets the contract of Q
-- - `Leads P old Q now`: if Q, read from `now`, stops at an error, then P, read from `old`, stops at the same error
-- - `here`, `first`: `Leads P old Q old` holds if P is Q, or if P is a sequence of two parts and Q is the first of them
-- - `behind`: if a part is followed by another and was parsed, an error that stops the second part also stops the two
--   parts together
-- - `under`: an error that stops a part also stops the same part with its value mapped
-- - `instead`: if each result of P is also a result of Q (`Serves`), and `Leads` holds for P and another part, then
--   `Leads` holds for Q and that part
-- - `exit`: the exit of a `?`, at which the function returns the error that was found
-- - `entered`: if a part is followed by another, a token that begins the first part also begins the two parts together
-- - `value_is`: a part that was parsed with a value was also parsed with each value that is equal to it
-- - `Loop item`: the laws of the items of a loop
-- - `loop_more`, `loop_fails`, `loop_ends`, `loop_shrinks`: the loop goes on after an item, stops at an item with an
--   error, or ends; each item leaves fewer tokens
use Rattle.std.proofs.Common.{arith, ◌≡◌, ◌<◌, length, Option, Result, IsErrAnd}
use Rattle.ps_text.specs.Answers.{Stream, Found, next_of as there_of}
use Rattle.ps_text.specs.Parts.{Part, then_by, mapped, many}
use Rattle.ps_text.specs.Readers.{Stops, Reads, Meets, Carries}
use Rattle.ps_text.proofs.Combinators.Laws.{Laws, Joint, Apart}
use Rattle.ps_text.proofs.Combinators.Covered.{Enters, Avoids, enters_then}
use Rattle.ps_text.proofs.ParsedAnswers.Exits.{exits, stops_mapped, stops_first, stops_behind, carries_reads}
use Rattle.ps_text.proofs.ParsedAnswers.Exits.{carries_stops}
use Rattle.ps_text.proofs.ParsedAnswers.Branches.{Stands, reads_as, stops_as_well, many_ends, many_fails, carries_many}
use Rattle.ps_text.proofs.ParsedAnswers.Branches.{reads_shrinks}
use Rattle.ps_hoa.specs.Causes.{HoaFault, found_of, hoa_causes}
use Rattle.ps_hoa.specs.Tokens.{Sign}
use Rattle.ps_hoa.specs.declared.fault.HoaCause.{HoaCause}
use Rattle.ps_hoa.proofs.Grammar.OperandLaws.{Odd}

-- ## One part that replaces another

pub record Serves {V : Type 0} (old : Stream Sign) (P Q : Part Sign V HoaCause) : Type 0 where
  pub reads : (v : V) (new : Stream Sign) → Reads P old v new → Reads Q old v new
  pub stops : (o : Option (Found HoaCause)) → Stops hoa_causes P old o → Stops hoa_causes Q old o

pub serves_as : {V : Type 0} {P Q : Part Sign V HoaCause} (old : Stream Sign) → Stands (there_of old) P Q →
    Serves old P Q
serves_as old w = record { reads = λ v new m. reads_as w m; stops = λ o s. stops_as_well hoa_causes old o w s }

pub itself : {V : Type 0} {P : Part Sign V HoaCause} {old : Stream Sign} → Serves old P P
itself = record { reads = λ v new m. m; stops = λ o s. s }

pub serves_both : {V : Type 0} {old : Stream Sign} {P Q R : Part Sign V HoaCause} → Serves old P Q → Serves old Q R →
    Serves old P R
serves_both w k = record { reads = λ v new m. k.reads v new (w.reads v new m); stops = λ o s. k.stops o (w.stops o s) }

pub serves_meets : {V X : Type 0} (view : X → V) {old : Stream Sign} (new : Stream Sign) {P Q : Part Sign V HoaCause}
    (result : Result X HoaFault) → Serves old P Q → Meets found_of hoa_causes view P old result new →
    Meets found_of hoa_causes view Q old result new
serves_meets view new r w m = grind arith

-- ## Faults

pub record Leads {A B : Type 0} (P : Part Sign A HoaCause) (old : Stream Sign) (Q : Part Sign B HoaCause)
    (now : Stream Sign) : Type 0 where
  pub stops : (o : Option (Found HoaCause)) → Stops hoa_causes Q now o → Stops hoa_causes P old o

pub here : {A : Type 0} {P : Part Sign A HoaCause} {old : Stream Sign} → Leads P old P old
here = record { stops = λ o s. s }

pub first : {A B : Type 0} {P : Part Sign A HoaCause} {Q : A → Part Sign B HoaCause} {old : Stream Sign} → Joint P Q →
    Leads (then_by P Q) old P old
first {old = old} j = record { stops = stops_first hoa_causes j old }

pub behind : {A B C : Type 0} {P : Part Sign A HoaCause} {Q : A → Part Sign B HoaCause} {R : Part Sign C HoaCause}
    {old mid now : Stream Sign} {a : A} → Joint P Q → Reads P old a mid → Leads (Q a) mid R now →
    Leads (then_by P Q) old R now
behind j m l = record { stops = λ o s. stops_behind hoa_causes j m o (l.stops o s) }

pub under : {A B : Type 0} (h : A → B) (P : Part Sign A HoaCause) {old : Stream Sign} → Leads (mapped h P) old P old
under h P {old} = record { stops = stops_mapped hoa_causes h P old }

pub instead : {A B : Type 0} {P Q : Part Sign A HoaCause} {R : Part Sign B HoaCause} {old now : Stream Sign} →
    Serves old P Q → Leads P old R now → Leads Q old R now
instead w l = record { stops = λ o s. w.stops o (l.stops o s) }

pub exit : {A V X : Type 0} (view : X → V) {P : Part Sign V HoaCause} {Q : Part Sign A HoaCause} {old now : Stream Sign}
    (new : Stream Sign) (fault : HoaFault) (result : Result X HoaFault) → Leads P old Q now →
    Stops hoa_causes Q now (found_of fault) → IsErrAnd result (λ y. y ≡ fault) →
    Meets found_of hoa_causes view P old result new
exit view {P} {old = old} new e r l s i = exits found_of hoa_causes view P old new e r (l.stops (found_of e) s) i

-- ## The tokens that begin a part, and values

pub entered : {A B : Type 0} {P : Part Sign A HoaCause} {Q : A → Part Sign B HoaCause} → Joint P Q → (s : Stream Sign) →
    Enters P (there_of s) → Enters (then_by P Q) (there_of s)
entered {P = P} {Q = Q} j s e = enters_then P Q j (there_of s) e

pub value_is : {V : Type 0} {P : Part Sign V HoaCause} {old new : Stream Sign} {value other : V} → value ≡ other →
    Reads P old value new → Reads P old other new
value_is {P = P} {old = old} {new = new} e m = grind arith

-- ## Loops

pub record Loop {C : Type 0} (item : C → Part Sign C HoaCause) (First : Sign → Type 0) : Type 1 where
  pub More : Sign → Type 0
  pub laws : (c : C) → Laws Odd (item c) First More ⊥
  pub apart : Apart More First

module _ {C : Type 0} {item : C → Part Sign C HoaCause} {First : Sign → Type 0} (w : Loop item First) where
  pub loop_more : {whole : Part Sign C HoaCause} {start now next : Stream Sign} {value next_value : C} →
      Carries hoa_causes whole start (many item value) now → Reads (item value) now next_value next →
      Carries hoa_causes whole start (many item next_value) next
  loop_more = carries_many item w.laws w.apart hoa_causes

  pub loop_fails : {whole : Part Sign C HoaCause} {start now : Stream Sign} {value : C} →
      Carries hoa_causes whole start (many item value) now → Enters (item value) (there_of now) →
      Leads whole start (item value) now
  loop_fails {whole} {start} {now} {value = c} k e = record {
    stops = λ o s. carries_stops hoa_causes whole (many item c) start now o k
        (many_fails item w.laws w.apart hoa_causes c now o e s);
  }

  pub loop_ends : {whole : Part Sign C HoaCause} {start now : Stream Sign} {c : C} →
      Carries hoa_causes whole start (many item c) now → Avoids First (there_of now) → Reads whole start c now
  loop_ends {now = now} {c = c} k a = carries_reads hoa_causes k (many_ends item w.laws w.apart c now a)

  pub loop_shrinks : {now next : Stream Sign} {c d : C} → Reads (item c) now d next →
      length next.pieces < length now.pieces
  loop_shrinks {c = c} m = reads_shrinks (λ v e. (w.laws c).null v e) m
