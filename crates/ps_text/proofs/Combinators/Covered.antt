-- If the next symbol decides which of several alternatives follows, parsing the whole has the same result as parsing
-- this alternative (proofs/Combinators/InPlace.antt). For example, `either P Q` has the result of P or the result of Q.
-- - `Enters P there`: the next symbol begins a text of P, or is an error of P
-- - `Avoids A there`: the next symbol is not in the set A
-- - `covers_left`, `covers_right`: `either` has the texts and errors of one alternative, if the next symbol does not
--   begin the other one
-- - `laws_either`: `either P Q` satisfies the laws of grammars (`Laws`), if P and Q begin with different symbols and at
--   most one has an empty text
use Rattle.std.proofs.Common.{arith, ◌≡◌, ◌⊎◌, List, [], ◌∷◌, ◌++◌, Option, None, Some, refl, subst, inl, inr, ◌∙◌}
use Rattle.std.proofs.Common.{rules, ⊎_elim}
use Rattle.ps_text.specs.Answers.{Begins, first_of}
use Rattle.ps_text.specs.Parts.{Part, IsRead, IsBroken, one, then_by, mapped, either}
use Rattle.ps_text.proofs.Combinators.Laws.{Laws, Or, When, Apart, Joint}
use Rattle.ps_text.proofs.Combinators.InPlace.{Covers}
use Rattle.ps_text.proofs.Combinators.Joined.{begins_left}
use Rattle.ps_text.proofs.Combinators.Simple.{same_some}

abbrev pub Enters : {T V F : Type 0} → Part T V F → Option T → Type 0
Enters P None = ⊥
Enters {T} {V} {F} P (Some t) = Begins P.IsText (t ∷ []) ⊎ ((f : F) × P.IsCause [] t f)

pub enters_broken : {T V F : Type 0} (P : Part T V F) (there : Option T) → Enters P there → IsBroken P [] there → ⊥
enters_broken P there e b = search rules

-- if a nonempty text was parsed, its first symbol begins a text of the grammar
pub enters_read : {T V F : Type 0} (P : Part T V F) (all rest : List T) (value : V) → ((other : V) →
    P.IsText [] other → ⊥) → IsRead P all value rest → Enters P (first_of all)
enters_read {T} P all rest v some p = go p.text p.split p.is_text
  where
    go : (text : List T) → all ≡ text ++ rest → P.IsText text v → Enters P (first_of all)
    go [] e h = absurd (some v h)
    go (t ∷ text) e h = search rules

-- a sequence of two grammars can begin with each symbol with which the first grammar can begin
pub enters_then : {T A B F : Type 0} (P : Part T A F) (Q : A → Part T B F) (j : Joint P Q) (there : Option T) →
    Enters P there → Enters (then_by P Q) there
enters_then P Q j there e = search (rules, begins_left)

-- a grammar whose value is mapped can begin with the same symbols as the grammar itself
pub enters_mapped : {T A B F : Type 0} (h : A → B) (P : Part T A F) (there : Option T) → Enters P there →
    Enters (mapped h P) there
enters_mapped h P None e = e
enters_mapped h P (Some t) (inl b) = inl (record { more = b.more; value = h b.value; is_text = grind arith })
enters_mapped h P (Some t) (inr c) = inr c

-- a grammar of one symbol can begin with each symbol that it accepts, or for which it has an error
pub enters_one : {T V F : Type 0} (take : T → Option V) (Bad : T → F → Type 0) (sign : T) →
    (((value : V) × (take sign ≡ Some value)) ⊎ ((cause : F) × Bad sign cause)) → Enters (one take Bad) (Some sign)
enters_one take Bad t (inl h) = inl (record { more = []; value = h.0; is_text = (t, refl, h.1) })
enters_one take Bad t (inr h) = inr (h.0, (refl, h.1))

-- ## either

-- the next symbol is not in the set `A`
abbrev pub Avoids : {T : Type 0} → (T → Type 0) → Option T → Type 0
Avoids {T} A there = (t : T) → there ≡ Some t → A t → ⊥

-- if the symbol t is an error of a grammar after the symbols `front`, the first of all these symbols (t, if `front` is
-- empty) is in the set `First`
pub first_of_cause : {T V F : Type 0} {odd : T → Type 0} {P : Part T V F} {First More : T → Type 0} {Null : Type 0} →
    Laws odd P First More Null →
    (front rest : List T) (t u : T) (f : F) → P.IsCause front t f → first_of (front ++ t ∷ rest) ≡ Some u → First u
first_of_cause {First = First} l [] rest t u f c e = subst First (same_some t u e) (l.first_cause t f c)
first_of_cause {First = First} l (s ∷ front) rest t u f c e = search (rules, same_some)

some_sign : {T : Type 0} (front : List T) (t : T) → (u : T) × (first_of (front ++ t ∷ []) ≡ Some u)
some_sign [] t = (t, refl)
some_sign (s ∷ front) t = (s, refl)

-- Let the grammar W have all texts and errors of P, and apart from these only texts and errors of Q. If Q does not
-- begin with the next symbol, W and P have the same texts and errors that begin with this symbol.
covers_one : {T V F : Type 0} {odd : T → Type 0} {P Q : Part T V F} {First More : T → Type 0} {Null : Type 0}
    (W : Part T V F) (l : Laws odd Q First More Null) (there : Option T) → Avoids First there → ((text : List T)
    (v : V) → P.IsText text v → W.IsText text v) → ((front : List T) (t : T) (f : F) → P.IsCause front t f → W.IsCause
    front t f) → ((text : List T) (v : V) → W.IsText text v → P.IsText text v ⊎ Q.IsText text v) → ((front : List T)
    (t : T) (f : F) → W.IsCause front t f → P.IsCause front t f ⊎ Q.IsCause front t f) → Covers there P W
covers_one {T} {V} {F} {P = P} {Q = Q} W l there a text cause text_of cause_of = search (rules, back, cause_back)
  where
    back : (t : T) (text : List T) (v : V) → there ≡ Some t → P.IsText (t ∷ text) v ⊎ Q.IsText (t ∷ text) v →
        P.IsText (t ∷ text) v
    back t text v e h = grind arith

    cause_back : (front : List T) (t : T) (f : F) → there ≡ first_of (front ++ t ∷ []) →
        P.IsCause front t f ⊎ Q.IsCause front t f → P.IsCause front t f
    cause_back front t f e (inl h) = h
    cause_back front t f e (inr h) =
        let s = some_sign front t in absurd (a s.0 (e ∙ s.1) (first_of_cause l front [] t s.0 f h s.1))

swapped : {A B : Type 0} → A ⊎ B → B ⊎ A
swapped cases = search rules

module _ {T V F : Type 0} {odd : T → Type 0} (P Q : Part T V F) {First More : T → Type 0} {Null : Type 0} where
  pub covers_left : Laws odd Q First More Null → (there : Option T) → Avoids First there → Covers there P (either P Q)
  covers_left r there a =
      covers_one (either P Q) r there a (λ _ _ h. inl h) (λ _ _ _ c. inl c) (λ _ _ h. h) (λ _ _ _ c. c)

  pub covers_right : Laws odd P First More Null → (there : Option T) → Avoids First there → Covers there Q (either P Q)
  covers_right l there a = covers_one (either P Q) l there a (λ _ _ h. inr h) (λ _ _ _ c. inr c)
      (λ _ _ h. swapped h) (λ _ _ _ c. swapped c)

-- a text of P that begins a text of Q, or that an error of Q follows, is empty, because P and Q begin with different
-- symbols
module _ {T V F : Type 0} {odd : T → Type 0} {P Q : Part T V F} {F1 M1 F2 M2 : T → Type 0} {N1 N2 : Type 0}
    (l : Laws odd P F1 M1 N1) (r : Laws odd Q F2 M2 N2) (apart : Apart F1 F2) where
  text_across : (text more : List T) (t : T) (v w : V) → P.IsText text v → Q.IsText (text ++ t ∷ more) w → When N1 F2 t
  text_across [] more t v w h k = (l.null v h, r.first_text t more w k)
  text_across (s ∷ text) more t v w h k = search rules

  cause_across : (text : List T) (t : T) (v : V) (f : F) → P.IsText text v → Q.IsCause text t f → When N1 F2 t
  cause_across [] t v f h k = (l.null v h, r.first_cause t f k)
  cause_across (s ∷ text) t v f h k = search (rules, first_of_cause)

module _ {T V F : Type 0} {odd : T → Type 0} {P Q : Part T V F} {F1 M1 F2 M2 : T → Type 0} {N1 N2 : Type 0} where
  -- `either P Q` satisfies the laws, if P and Q begin with different symbols, and at most one of them has an empty text
  pub laws_either : Laws odd P F1 M1 N1 → Laws odd Q F2 M2 N2 → Apart F1 F2 → (N1 → N2 → ⊥) →
      Laws odd (either P Q) (Or F1 F2) (Or (Or M1 M2) (Or (When N1 F2) (When N2 F1))) (N1 ⊎ N2)
  laws_either l r apart nulls = record {
    some = record { more = l.some.more; value = l.some.value; is_text = inl l.some.is_text };
    one_value = values;
    first_text = search rules;
    first_cause = λ t f. ⊎_elim (λ c. inl (l.first_cause t f c)) (λ c. inr (r.first_cause t f c));
    more_text = mores;
    more_cause = more_causes;
    null = λ v. ⊎_elim (λ h. inl (l.null v h)) (λ h. inr (r.null v h));
    behind = search rules;
    plain_text = search rules;
    plain_cause = λ front t f c o. ⊎_elim (λ d. l.plain_cause front t f d o) (λ d. r.plain_cause front t f d o) c;
  }
    where
      apart_texts : (text : List T) (v w : V) → P.IsText text v → Q.IsText text w → ⊥
      apart_texts [] v w h k = nulls (l.null v h) (r.null w k)
      apart_texts (t ∷ text) v w h k = apart t (l.first_text t text v h) (r.first_text t text w k)

      values : (text : List T) (v w : V) → (either P Q).IsText text v → (either P Q).IsText text w → v ≡ w
      values text v w h k = grind (arith, apart_texts)

      mores : (text more : List T) (t : T) (v w : V) → (either P Q).IsText text v →
          (either P Q).IsText (text ++ t ∷ more) w → Or (Or M1 M2) (Or (When N1 F2) (When N2 F1)) t
      mores text more t v w (inl h) (inl k) = inl (inl (l.more_text text more t v w h k))
      mores text more t v w (inl h) (inr k) = inr (inl (text_across l r apart text more t v w h k))
      mores text more t v w (inr h) (inl k) = inr (inr (text_across r l (λ s a b. apart s b a) text more t v w h k))
      mores text more t v w (inr h) (inr k) = inl (inr (r.more_text text more t v w h k))

      more_causes : (text : List T) (t : T) (v : V) (f : F) → (either P Q).IsText text v →
          (either P Q).IsCause text t f → Or (Or M1 M2) (Or (When N1 F2) (When N2 F1)) t
      more_causes text t v f (inl h) (inl c) = inl (inl (l.more_cause text t v f h c))
      more_causes text t v f (inl h) (inr c) = inr (inl (cause_across l r apart text t v f h c))
      more_causes text t v f (inr h) (inl c) = inr (inr (cause_across r l (λ s a b. apart s b a) text t v f h c))
      more_causes text t v f (inr h) (inr c) = inl (inr (r.more_cause text t v f h c))
