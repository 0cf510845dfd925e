-- What a parsing function may return for a choice between two grammars, and for repeated items (a loop). The module
-- MeetsLemmas restates each of these lemmas for `Meets`, the contract of functions whose values are of another type than
-- the grammar's.
-- - `Stands there P Q`: at the next symbol `there`, parsing P has the same result as parsing Q
-- - `left_entered`, `right_entered`: `either` has the result of one alternative if the next symbol begins this
--   alternative, or is an error of it
-- - `left_otherwise`, `right_otherwise`: `either` has the result of one alternative if the next symbol does not begin
--   the other one, which has no empty text
-- - `item_entered`: if the next symbol begins an item, `many` has the result of an item followed by `many`
-- - `reads_as, stops_as_well, meets_as`: if `Stands` holds for P and Q, a result of parsing P is also a result of
--   parsing Q
-- - `many_ends`, `many_reads`, `many_fails`: `many` ends if no item begins, continues after an item, or stops at an
--   error of an item
-- - `times_reads`, `times_fails`: `times` continues after an item, or stops at an error of an item
-- - `carries_many`, `carries_times`: the invariant `Carries` of a loop over items still holds after an item was parsed
-- - `reads_shrinks`: parsing a nonempty text leaves fewer unread pieces, so a loop that parses nonempty texts
--   terminates
use Rattle.std.proofs.Common.{◌≡◌, ℕ, zero, suc, ◌-◌, ◌<◌, List, [], ◌∷◌, ◌++◌, length, Option, Some, Result, Ok}
use Rattle.std.proofs.Common.{Err, subst, arith, length-append, rules}
use Rattle.std.proofs.lemmas.List.{length-map}
use Rattle.ps_text.specs.Answers.{Stream, Found, signs, next_of}
use Rattle.ps_text.specs.Parts.{Part, Causes, IsRead, IsBroken, either, times, many}
use Rattle.ps_text.specs.Readers.{Stops, Reads, Meets, Carries}
use Rattle.ps_text.proofs.Combinators.Laws.{Laws, Apart}
use Rattle.ps_text.proofs.ParsedAnswers.Exits.{stops_as, reads_then, stops_first, stops_behind, suffix_refl}
use Rattle.ps_text.proofs.Combinators.InPlace.{Covers, read_as, fault_as}
use Rattle.ps_text.proofs.Combinators.Covered.{Enters, Avoids, enters_broken, enters_read, enters_then, covers_left}
use Rattle.ps_text.proofs.Combinators.Covered.{covers_right}
use Rattle.ps_text.proofs.Combinators.Repeated.{more_items, covers_item, joint_many, joint_times, read_none}

pub enters_first : {T V F : Type 0} {odd : T → Type 0} {P : Part T V F} {First More : T → Type 0} {Null : Type 0} →
    Laws odd P First More Null → (there : Option T) → Enters P there → (t : T) → there ≡ Some t → First t
enters_first {P = P} {First = First} l there e t x = search (rules, Enters)

pub shrinks : {T V F : Type 0} (P : Part T V F) (all rest : List T) (v : V) → ((w : V) → P.IsText [] w → ⊥) →
    IsRead P all v rest → length rest < length all
shrinks {T} P all rest v some p = go p.text p.split p.is_text
  where
    go : (text : List T) → all ≡ text ++ rest → P.IsText text v → length rest < length all
    go [] e h = absurd (some v h)
    go (t ∷ text) e h = grind (arith, length-append)

-- after a nonempty text was parsed, fewer pieces are unread
pub reads_shrinks : {T V F : Type 0} {P : Part T V F} {old new : Stream T} {v : V} → ((w : V) → P.IsText [] w → ⊥) →
    Reads P old v new → length new.pieces < length old.pieces
reads_shrinks {P = P} {old = old} {new = new} {v = v} some m = omega (
  arith,
  shrinks P (signs old.pieces) (signs new.pieces) v some m.1,
  length-map new.pieces (λ p. p.sign),
  length-map old.pieces (λ p. p.sign),
)

pub record Stands {T V F : Type 0} (there : Option T) (P Q : Part T V F) : Type 0 where
  pub covers : Covers there P Q
  pub starts : IsBroken P [] there → (v : V) → Q.IsText [] v → ⊥

pub reads_as : {T V F : Type 0} {P Q : Part T V F} {old new : Stream T} {value : V} → Stands (next_of old) P Q →
    Reads P old value new → Reads Q old value new
reads_as {P = P} {Q = Q} w m = (m.0, read_as P Q w.covers m.1)

pub stops_as_well : {T V F : Type 0} (causes : Causes T F) {P Q : Part T V F} (old : Stream T) (stop : Option (Found F))
    → Stands (next_of old) P Q → Stops causes P old stop → Stops causes Q old stop
stops_as_well causes {P = P} {Q = Q} old o w s = search (rules, stops_as, fault_as)

pub meets_as : {T V F X E : Type 0} (found : E → Option (Found F)) (causes : Causes T F) (view : X → V)
    {P Q : Part T V F} (old new : Stream T) (r : Result X E) →
    Stands (next_of old) P Q → Meets found causes view P old r new → Meets found causes view Q old r new
meets_as found causes view old new r w m = search (rules, reads_as, stops_as_well)

module _ {T V F : Type 0} {odd : T → Type 0} {P Q : Part T V F} {F1 M1 F2 M2 : T → Type 0} {N1 N2 : Type 0}
    (l : Laws odd P F1 M1 N1) (r : Laws odd Q F2 M2 N2) (there : Option T) where
  pub left_entered : Apart F1 F2 → Enters P there → Stands there P (either P Q)
  left_entered apart e = record {
    covers = covers_left P Q r there (λ t x h. apart t (enters_first l there e t x) h);
    starts = λ b v h. enters_broken P there e b;
  }

  pub right_entered : Apart F1 F2 → Enters Q there → Stands there Q (either P Q)
  right_entered apart e = record {
    covers = covers_right P Q l there (λ t x h. apart t h (enters_first r there e t x));
    starts = λ b v h. enters_broken Q there e b;
  }

  pub left_otherwise : Avoids F2 there → (N2 → ⊥) → Stands there P (either P Q)
  left_otherwise a n = grind (arith, covers_left P Q r there a)

  pub right_otherwise : Avoids F1 there → (N1 → ⊥) → Stands there Q (either P Q)
  right_otherwise a n = grind (arith, covers_right P Q l there a)

module _ {T C F : Type 0} {odd : T → Type 0} (item : C → Part T C F) {First More : T → Type 0}
    (l : (c : C) → Laws odd (item c) First More ⊥) (apart : Apart More First) where
  pub item_entered : (c : C) (there : Option T) → Enters (item c) there → Stands there (more_items item c) (many item c)
  item_entered c there e = record {
    covers = covers_item item c there;
    starts = λ b v h. enters_broken
        (more_items item c) there (enters_then (item c) (λ d. many item d) (joint_many item l apart c) there e) b;
  }

  item_read : {c d : C} {old mid : Stream T} → Reads (item c) old d mid → Enters (item c) (next_of old)
  item_read {c} {d} {old} {mid} m =
      enters_read (item c) (signs old.pieces) (signs mid.pieces) d (λ w h. (l c).null w h) m.1

  pub many_ends : (value : C) (stream : Stream T) → Avoids First (next_of stream) →
      Reads (many item value) stream value stream
  many_ends c s a = (suffix_refl s, read_none item l apart c (signs s.pieces) a)

  pub many_reads : {c d e : C} {old mid new : Stream T} → Reads (item c) old d mid → Reads (many item d) mid e new →
      Reads (many item c) old e new
  many_reads {c = c} {old = old} m n =
      reads_as (item_entered c (next_of old) (item_read m)) (reads_then (joint_many item l apart c) m n)

  pub many_fails : (causes : Causes T F) (value : C) (old : Stream T) (stop : Option (Found F)) →
      Enters (item value) (next_of old) → Stops causes (item value) old stop → Stops causes (many item value) old stop
  many_fails causes c old o e s = stops_as_well causes old o
      (item_entered c (next_of old) e) (stops_first causes (joint_many item l apart c) old o s)

  pub many_fails_later : (causes : Causes T F) {c d : C} {old mid : Stream T} (o : Option (Found F)) →
      Reads (item c) old d mid → Stops causes (many item d) mid o → Stops causes (many item c) old o
  many_fails_later causes {c = c} {old = old} o m s = stops_as_well causes old o
      (item_entered c (next_of old) (item_read m)) (stops_behind causes (joint_many item l apart c) m o s)

  pub carries_many : (causes : Causes T F) {whole : Part T C F} {start now next : Stream T} {c d : C} → Carries
      causes whole start (many item c) now → Reads (item c) now d next → Carries causes whole start (many item d) next
  carries_many causes {whole} {start} {now} {next} {c} {d} k m = go
    where
      go : Carries causes whole start (many item d) next
      go (Ok e) new n = k (Ok e) new (many_reads m n)
      go (Err o) new n = k (Err o) new (many_fails_later causes o m n)

  pub times_reads : (n : ℕ) {c d e : C} {old mid new : Stream T} → 0 < n → Reads (item c) old d mid →
      Reads (times (n - 1) item d) mid e new → Reads (times n item c) old e new
  times_reads zero z m k = absurd (omega (arith, z))
  times_reads (suc n) {c = c} {d = d} {e = e} {mid = mid} {new = new} z m k = reads_then (joint_times item l apart n c)
      m (let x : suc n - 1 ≡ n = omega arith in subst (λ i. Reads (times i item d) mid e new) x k)

  pub times_fails : (causes : Causes T F) (n : ℕ) (c : C) (old : Stream T) (o : Option (Found F)) → 0 < n →
      Stops causes (item c) old o → Stops causes (times n item c) old o
  times_fails causes zero c old o z s = absurd (omega (arith, z))
  times_fails causes (suc n) c old o z s = stops_first causes (joint_times item l apart n c) old o s

  pub times_fails_later : (causes : Causes T F) (n : ℕ) {c d : C} {old mid : Stream T} (o : Option (Found F)) →
      0 < n → Reads (item c) old d mid → Stops causes (times (n - 1) item d) mid o → Stops causes (times n item c) old o
  times_fails_later causes zero o z m k = absurd (omega (arith, z))
  times_fails_later causes (suc n) {c = c} {d = d} {mid = mid} o z m k = stops_behind causes (joint_times item
      l apart n c) m o (let x : suc n - 1 ≡ n = omega arith in subst (λ i. Stops causes (times i item d) mid o) x k)

  pub carries_times : (causes : Causes T F) {whole : Part T C F} {start now next : Stream T} (n : ℕ) {c d : C} → 0 < n →
      Carries causes whole start (times n item c) now →
      Reads (item c) now d next → Carries causes whole start (times (n - 1) item d) next
  carries_times causes {whole} {start} {now} {next} n {c} {d} z k m = go
    where
      go : Carries causes whole start (times (n - 1) item d) next
      go (Ok e) new q = k (Ok e) new (times_reads n z m q)
      go (Err o) new q = k (Err o) new (times_fails_later causes n o z m q)
