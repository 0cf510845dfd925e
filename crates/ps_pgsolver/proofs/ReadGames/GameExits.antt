-- When a function of the game parser returns, it has parsed a part of the grammar, or has found that part's first
-- error.
-- - `Done part old v new`: the grammar's part `part` was parsed from `old` to `new` with the value v
-- - `done_then`, `stops_left`, `stops_right`: if one part follows another, both are parsed, or the first has an error,
--   or the second has one
-- - `done_mapped`, `stops_mapped`: a part of the grammar with a function applied to its value is parsed, or has an
--   error
-- - `exit`: at a `?`, the parsing function returns the error that was found
use Rattle.std.proofs.Common.{◌≡◌, Result, Ok, Err, IsErrAnd, refl, subst}
use Rattle.ps_text.specs.Answers.{Stream, signs, next_of}
use Rattle.ps_text.specs.Parts.{Part, IsRead, then_by, many, mapped}
use Rattle.ps_text.specs.Readers.{IsSuffix, Stops}
use Rattle.ps_text.proofs.Combinators.Laws.{Joint, Laws, Apart}
use Rattle.ps_text.proofs.Combinators.Covered.{Enters, Avoids}
use Rattle.ps_text.proofs.ParsedAnswers.MeetsLemmas.{many_then, many_fails, many_ends, then_meets, then_fails, exits}
use Rattle.ps_text.proofs.ParsedAnswers.MeetsLemmas.{meets_mapped}
use Rattle.ps_pgsolver.specs.Inner.Answered.{ReadsAs, found_of}
use Rattle.ps_pgsolver.specs.GameTexts.{pg_causes}
use Rattle.ps_pgsolver.specs.Signs.{Sign}
use Rattle.ps_pgsolver.specs.declared.fault.PgCause.{PgCause}
use Rattle.ps_pgsolver.specs.Causes.{PgFault}

abbrev pub Done : {V : Type 0} → Part Sign V PgCause → Stream Sign → V → Stream Sign → Type 0
Done part old v new = IsSuffix old new × IsRead part (signs old.pieces) v (signs new.pieces)

abbrev pub Halts : {V : Type 0} → Part Sign V PgCause → Stream Sign → PgFault → Type 0
Halts part old e = Stops pg_causes part old (found_of e)

pub done_then : {A B : Type 0} {P : Part Sign A PgCause} {Q : A → Part Sign B PgCause} → Joint P Q →
    (old mid new : Stream Sign) (a : A) (b : B) → Done P old a mid → Done (Q a) mid b new → Done (then_by P Q) old b new
done_then j old mid new a b m n = then_meets found_of pg_causes j (λ x. x) (λ x. x) old mid new a (Ok b) m n

pub stops_left : {A B : Type 0} {P : Part Sign A PgCause} {Q : A → Part Sign B PgCause} → Joint P Q →
    (old : Stream Sign) (fault : PgFault) → Halts P old fault → Halts (then_by P Q) old fault
stops_left {A} {B} j old e m = then_fails found_of pg_causes {X = A} {Y = B} j (λ x. x) (λ x. x) old old old e m

pub stops_right : {A B : Type 0} {P : Part Sign A PgCause} {Q : A → Part Sign B PgCause} → Joint P Q →
    (old mid : Stream Sign) (a : A) (e : PgFault) → Done P old a mid → Halts (Q a) mid e → Halts (then_by P Q) old e
stops_right {A} {B} j old mid a e m n =
    then_meets found_of pg_causes {X = A} {Y = B} j (λ x. x) (λ x. x) old mid mid a (Err e) m n

pub done_mapped : {A B : Type 0} (h : A → B) (P : Part Sign A PgCause) (old new : Stream Sign) (a : A) →
    Done P old a new → Done (mapped h P) old (h a) new
done_mapped {A} {B} h P old new a m = meets_mapped found_of pg_causes (λ x. x) h P old new (Ok a) m

pub stops_mapped : {A B : Type 0} (h : A → B) (P : Part Sign A PgCause) (old : Stream Sign) (e : PgFault) →
    Halts P old e → Halts (mapped h P) old e
stops_mapped {A} {B} h P old e m = meets_mapped found_of pg_causes {X = A} (λ x. x) h P old old (Err e) m

pub exit : {V X : Type 0} (view : X → V) (P : Part Sign V PgCause) (old new : Stream Sign) (fault : PgFault)
    (result : Result X PgFault) → Halts P old fault → IsErrAnd result (λ y. y ≡ fault) → ReadsAs view P old result new
exit view P old new e r m i = exits found_of pg_causes view P old new e r m i

-- if a part of the grammar was parsed with some value, it was parsed with any equal value
pub done_value : {V : Type 0} (P : Part Sign V PgCause) (old new : Stream Sign) {v w : V} → v ≡ w → Done P old v new →
    Done P old w new
done_value P old new e m = (m.0, subst (λ x. IsRead P (signs old.pieces) x (signs new.pieces)) e m.1)

-- parsing `whole` from `start` on gives the same value or error as parsing `rest` from `now` on
pub record Continues {V : Type 0} (whole rest : Part Sign V PgCause) (start now : Stream Sign) : Type 0 where
  pub done : (v : V) (new : Stream Sign) → Done rest now v new → Done whole start v new
  pub stops : (e : PgFault) → Halts rest now e → Halts whole start e

pub continues_start : {V : Type 0} {whole : Part Sign V PgCause} {start : Stream Sign} →
    Continues whole whole start start
continues_start = record { done = λ v new m. m; stops = λ e m. m }

pub continues_then : {A B : Type 0} {P : Part Sign A PgCause} {Q : A → Part Sign B PgCause} → Joint P Q →
    {whole : Part Sign B PgCause} {start now next : Stream Sign} (a : A) →
    Continues whole (then_by P Q) start now → Done P now a next → Continues whole (Q a) start next
continues_then j {now} {next} a k m = record {
  done = λ v new n. k.done v new (done_then j now next new a v m n);
  stops = λ e n. k.stops e (stops_right j now next a e m n);
}

module _ {C : Type 0} {odd : Sign → Type 0} (item : C → Part Sign C PgCause) {First More : Sign → Type 0}
    (l : (c : C) → Laws odd (item c) First More ⊥) (apart : Apart More First) where
  pub continues_many : {whole : Part Sign C PgCause} {start now next : Stream Sign} (c d : C) →
      Continues whole (many item c) start now → Done (item c) now d next → Continues whole (many item d) start next
  continues_many {now} {next} c d k m = record {
    done = λ v new n. k.done v new
        (many_then found_of pg_causes {X = C} item l apart (λ x. x) (λ x. x) c now next new d (Ok v) m n);
    stops = λ e n. k.stops e
        (many_then found_of pg_causes {X = C} item l apart (λ x. x) (λ x. x) c now next next d (Err e) m n);
  }

  pub many_halts : (c : C) (now : Stream Sign) (e : PgFault) → Enters (item c) (next_of now) → Halts (item c) now e →
      Halts (many item c) now e
  many_halts c now e h m =
      many_fails found_of pg_causes {X = C} item l apart (λ x. x) {Y = C} (λ x. x) c now now now e h m

  pub many_done : (c : C) (now : Stream Sign) → Avoids First (next_of now) → Done (many item c) now c now
  many_done c now a = many_ends found_of pg_causes item l apart (λ x. x) c now c a refl
