-- Properties that hold for the value of each text of a grammar if the text has no error.
-- - `Keeps part S`: if a text of the part has no error, S holds for the value of the text
-- - `keeps_give` to `keeps_barred`: one lemma for each combinator: `Keeps` holds for the part that the combinator
--   makes if it holds for the parts that are combined
-- - `keeps_read`: S holds for the value of a part that was parsed
use Rattle.std.proofs.Common.{◌≡◌, ℕ, zero, suc, List, [], ◌∷◌, ◌++◌, Option, Some, refl, sym, subst}
use Rattle.std.proofs.Common.{inl, inr, append_assoc, arith, length-append}
use Rattle.ps_text.specs.Parts.{Part, IsRead, give, one, then_by, either, times, many, mapped, barred}

abbrev pub IsQuiet : {T V F : Type 0} → Part T V F → List T → Type 0
IsQuiet {T} {V} {F} part text =
    (front rest : List T) (t : T) (f : F) → text ≡ front ++ t ∷ rest → part.IsCause front t f → ⊥

abbrev pub Keeps : {T V F : Type 0} → Part T V F → (V → Type 0) → Type 0
Keeps {T} {V} {F} part S = (text : List T) (v : V) → part.IsText text v → IsQuiet part text → S v

-- the property that is true of everything is kept by each grammar: the values of all texts have it
pub keeps_nothing : {T V F : Type 0} (part : Part T V F) → Keeps part (λ _. Unit {0})
keeps_nothing part text v i q = tt

pub keeps_less : {T V F : Type 0} {S R : V → Type 0} (part : Part T V F) → ((v : V) → S v → R v) →
    Keeps part S → Keeps part R
keeps_less part h k text v i q = h v (k text v i q)

pub keeps_give : {T V F : Type 0} (S : V → Type 0) (v : V) → S v → Keeps (give {T = T} {V = V} {F = F} v) S
keeps_give S v s text w i q = subst S (sym i.1) s

-- the values of a grammar of one token have a property if the value of each accepted token has it
pub keeps_one : {T V F : Type 0} {S : V → Type 0} (take : T → Option V) (Bad : T → F → Type 0) →
    ((sign : T) (value : V) → take sign ≡ Some value → ((cause : F) → Bad sign cause → ⊥) → S value) →
    Keeps (one take Bad) S
keeps_one take Bad h text v i q = h i.0 v i.2 (λ f b. q [] [] i.0 f i.1 (refl, b))

-- the values of two grammars in sequence have a property if the second grammar's values have it for each value of the
-- first grammar
pub keeps_then : {T A B F : Type 0} {S : A → Type 0} {R : B → Type 0} {P : Part T A F} {Q : A → Part T B F} →
    Keeps P S → ((value : A) → S value → Keeps (Q value) R) → Keeps (then_by P Q) R
keeps_then {P = P} {Q = Q} p q text b i quiet = q i.value (p i.left i.value i.is_left left) i.right b i.is_right right
  where
    left : IsQuiet P i.left
    left front rest t f e c = grind (arith, append_assoc)

    right : IsQuiet (Q i.value) i.right
    right front rest t f e c = quiet (i.left ++ front) rest t f (grind (arith, append_assoc)) (inr (record {
      left = i.left;
      right = front;
      value = i.value;
      split = refl;
      is_left = i.is_left;
      is_cause = c;
    }))

-- the values of two grammars in sequence have a property if the second grammar's values always have it
pub keeps_behind : {T A B F : Type 0} {R : B → Type 0} (P : Part T A F) {Q : A → Part T B F} →
    ((a : A) → Keeps (Q a) R) → Keeps (then_by P Q) R
keeps_behind P q = keeps_then (keeps_nothing P) (λ a _. q a)

pub keeps_either : {T V F : Type 0} {S : V → Type 0} {P Q : Part T V F} → Keeps P S → Keeps Q S → Keeps (either P Q) S
keeps_either p q text v (inl i) quiet = p text v i (λ front rest t f e c. quiet front rest t f e (inl c))
keeps_either p q text v (inr i) quiet = q text v i (λ front rest t f e c. quiet front rest t f e (inr c))

-- the values of a grammar mapped by h have a property if h gives this property to each value of the grammar
pub keeps_mapped : {T A B F : Type 0} (S : B → Type 0) (h : A → B) (P : Part T A F) → Keeps P (λ a. S (h a)) →
    Keeps (mapped h P) S
keeps_mapped S h P k text b i quiet = subst S (sym i.2) (k text i.0 i.1 quiet)

pub keeps_barred : {T V F : Type 0} {S : V → Type 0} (P : Part T V F) (Bad : V → T → F → Type 0) → Keeps P S →
    Keeps (barred P Bad) S
keeps_barred P Bad k text v i quiet = k text v i (λ front rest t f e c. quiet front rest t f e (inl c))

module _ {T C F : Type 0} {S : C → Type 0} (item : C → Part T C F) (k : (c : C) → S c → Keeps (item c) S) where
  pub keeps_times : (n : ℕ) (c : C) → S c → Keeps (times n item c) S
  keeps_times zero c s = keeps_give S c s
  keeps_times (suc n) c s = keeps_then (k c s) (keeps_times n)

  -- the values of a repetition have a property if the initial value has it and each item keeps it
  pub keeps_many : (c : C) → S c → Keeps (many item c) S
  keeps_many c s text v i quiet = keeps_times i.0 c s text v i.1 (λ front rest t f e d. quiet front rest t f e (i.0, d))

pub keeps_read : {T V F : Type 0} {S : V → Type 0} (part : Part T V F) → Keeps part S → (all rest : List T) (v : V) →
    IsRead part all v rest → S v
keeps_read part k all rest v p = grind (arith, length-append, append_assoc)
