-- The lemmas of the modules Exits and Branches, restated for the contract `Meets` of functions with any type of result.
use Rattle.std.proofs.Common.{◌≡◌, ◌<◌, ◌≤◌, [], length, Option, None, Some, Result, Ok, Err, IsErrAnd, subst, sym}
use Rattle.std.proofs.Common.{rules}
use Rattle.ps_text.specs.Answers.{Stream, Found, next_of, offset_of}
use Rattle.ps_text.specs.Parts.{Part, Causes, give, one, then_by, mapped, either, many}
use Rattle.ps_text.specs.Readers.{refusal_at, tail, Reads, Meets}
use Rattle.ps_text.proofs.Combinators.Laws.{Joint, Laws, Apart}
use Rattle.ps_text.proofs.Combinators.Covered.{Enters, Avoids}
use Rattle.ps_text.proofs.ParsedAnswers.Exits as steps
use Rattle.ps_text.proofs.ParsedAnswers.Exits.{reads_give, reads_mapped, reads_then, reads_next, stops_mapped}
use Rattle.ps_text.proofs.ParsedAnswers.Exits.{stops_first}
use Rattle.ps_text.proofs.ParsedAnswers.Exits.{stops_behind, stops_bad, stops_refusal}
use Rattle.ps_text.proofs.ParsedAnswers.Branches as branches
use Rattle.ps_text.proofs.ParsedAnswers.Branches.{reads_shrinks, meets_as, many_reads, many_fails_later}

module _ {T F E : Type 0} (found : E → Option (Found F)) (causes : Causes T F) where
  pub meets_give : {V X : Type 0} (view : X → V) (s : Stream T) (x : X) (v : V) → view x ≡ v →
      Meets found causes view (give v) s (Ok x) s
  meets_give view s x v e = subst (λ w. Reads {F = F} (give v) s w s) (sym e) (reads_give s v)

  pub meets_mapped : {A B X : Type 0} (view : X → A) (h : A → B) (P : Part T A F) (old new : Stream T) (r
      : Result X E) → Meets found causes view P old r new → Meets found causes (λ x. h (view x)) (mapped h P) old r new
  meets_mapped view h = search (rules, reads_mapped, stops_mapped)

  pub then_meets : {A B X Y : Type 0} {P : Part T A F} {Q : A → Part T B F} (j : Joint P Q) (see : X → A)
      (view : Y → B) (old mid new : Stream T) (x : X) (r : Result Y E) → Meets found causes see P old (Ok x) mid →
      Meets found causes view (Q (see x)) mid r new → Meets found causes view (then_by P Q) old r new
  then_meets j see view old mid new x (Ok y) m n = reads_then j m n
  then_meets j see view old mid new x (Err e) m n = stops_behind causes j m (found e) n

  pub then_fails : {A B X Y : Type 0} {P : Part T A F} {Q : A → Part T B F} (j : Joint P Q) (see : X → A) (view : Y → B)
      (old mid new : Stream T) (e : E) →
      Meets found causes see P old (Err e) mid → Meets found causes view (then_by P Q) old (Err e) new
  then_fails j see view old mid new e m = stops_first causes j old (found e) m

  module _ {V X : Type 0} (take : T → Option V) (Bad : T → F → Type 0) (view : X → V) (old new : Stream T) where
    -- a function that parses one symbol meets its contract if it returns the value of the next symbol, which is
    -- accepted
    pub meets_next : (t : T) (x : X) → next_of old ≡ Some t → new ≡ tail old → take t ≡ Some (view x) →
        ((f : F) → Bad t f → ⊥) → Meets found causes view (one take Bad) old (Ok x) new
    meets_next t x n z k good = reads_next take Bad old new t (view x) n z k good

    -- a function that parses one symbol meets its contract if it returns the error of the next symbol
    pub meets_bad_next : (t : T) (f : F) (e : E) → next_of old ≡ Some t →
        Bad t f → ((g : F) → Bad t g → causes.number f ≤ causes.number g) → found e ≡ Some (record
        { cause = f; offset = offset_of old.pieces old.end }) → Meets found causes view (one take Bad) old (Err e) new
    meets_bad_next t f e n b least k = stops_bad causes take Bad old t f (found e) n b least k

    -- a function that parses one symbol meets its contract if it returns the error for a symbol that is not allowed, or
    -- for the end of the text
    pub meets_refusal : (s : T) (w : V) → take s ≡ Some w → ((t : T) → next_of old ≡ Some t → take t ≡ None) →
        ((t : T) (f : F) → next_of old ≡ Some t → Bad t f → ⊥) →
        (e : E) → found e ≡ Some (refusal_at causes old) → Meets found causes view (one take Bad) old (Err e) new
    meets_refusal s w y none good e t = stops_refusal causes take Bad old s w y none good (found e) t

  pub exits : {V X : Type 0} (view : X → V) (P : Part T V F) (old new : Stream T) (e : E) (r : Result X E) →
      Meets found causes view P old (Err e) new → IsErrAnd r (λ y. y ≡ e) → Meets found causes view P old r new
  exits view P old new e r m i = steps.exits found causes view P old new e r m i

  -- after a nonempty text was parsed, fewer pieces are unread
  pub meets_shrinks : {V X : Type 0} (view : X → V) (P : Part T V F) (old new : Stream T) (x : X) →
      ((v : V) → P.IsText [] v → ⊥) → Meets found causes view P old (Ok x) new → length new.pieces < length old.pieces
  meets_shrinks view P old new x some m = reads_shrinks some m

  module _ {V X : Type 0} {odd : T → Type 0} {P Q : Part T V F} {F1 M1 F2 M2 : T → Type 0} {N1 N2 : Type 0}
      (l : Laws odd P F1 M1 N1) (r : Laws odd Q F2 M2 N2) (view : X → V) (old new : Stream T) (result : Result X E)
    where
      pub left_entered : Apart F1 F2 → Enters P (next_of old) → Meets found causes view P old result new →
          Meets found causes view (either P Q) old result new
      left_entered apart e m =
          meets_as found causes view old new result (branches.left_entered l r (next_of old) apart e) m

      pub right_entered : Apart F1 F2 → Enters Q (next_of old) → Meets found causes view Q old result new →
          Meets found causes view (either P Q) old result new
      right_entered apart e m =
          meets_as found causes view old new result (branches.right_entered l r (next_of old) apart e) m

      pub left_otherwise : Avoids F2 (next_of old) → (N2 → ⊥) → Meets found causes view P old result new →
          Meets found causes view (either P Q) old result new
      left_otherwise a n m = meets_as found causes view old new result (branches.left_otherwise l r (next_of old) a n) m

      pub right_otherwise : Avoids F1 (next_of old) → (N1 → ⊥) → Meets found causes view Q old result new →
          Meets found causes view (either P Q) old result new
      right_otherwise a n m =
          meets_as found causes view old new result (branches.right_otherwise l r (next_of old) a n) m

  module _ {C X : Type 0} {odd : T → Type 0} (item : C → Part T C F) {First More : T → Type 0}
      (l : (c : C) → Laws odd (item c) First More ⊥) (apart : Apart More First) (view : X → C) where
    pub many_ends : (c : C) (s : Stream T) (x : X) → Avoids First (next_of s) → view x ≡ c →
        Meets found causes view (many item c) s (Ok x) s
    many_ends c s x a e = subst (λ v. Reads (many item c) s v s) (sym e) (branches.many_ends item l apart c s a)

    pub many_fails : {Y : Type 0} (see : Y → C) (c : C) (old mid new : Stream T) (e : E) → Enters (item c) (next_of
        old) → Meets found causes see (item c) old (Err e) mid → Meets found causes view (many item c) old (Err e) new
    many_fails see c old mid new e h m = branches.many_fails item l apart causes c old (found e) h m

    pub many_then : {Y : Type 0} (see : Y → C) (c : C) (old mid new : Stream T) (y : Y) (r : Result X E) →
        Meets found causes see (item c) old (Ok y) mid →
        Meets found causes view (many item (see y)) mid r new → Meets found causes view (many item c) old r new
    many_then see c old mid new y (Ok x) m n = many_reads item l apart m n
    many_then see c old mid new y (Err e) m n = many_fails_later item l apart causes (found e) m n
