-- The combinators `times` and `many` repeat an item. The lemmas about `times` and `many` assume that no item is empty,
-- and that no symbol both continues an item and begins an item.
-- - `laws_times`, `laws_many`: the grammars of repeated items satisfy the laws; their texts begin with symbols of the
--   item's set First, and continue with symbols of More or First
-- - `covers_item`: apart from the empty text, `many` has the texts and errors of an item followed by `many`
-- - `read_nothing`, `read_none`: if the next symbol does not begin an item, `many` is parsed, with no item
-- - `joint_many`, `joint_times`: an item and the items after it satisfy `Joint`: it is clear where the next item begins
-- - `read_item`: if an item is parsed, and then `many` is parsed from its end, then `many` is parsed from the item's
--   start
--
-- `many` satisfies the laws because `upto n`, the grammar of up to n items, satisfies them: each text and each error of
-- `many` is one of `upto n` for some n.
use Rattle.std.proofs.Common.{rules, ◌≡◌, ℕ, zero, suc, ◌+◌, ◌<◌, ◌≤◌, List, [], ◌∷◌, ◌++◌, length, Option, Some, refl}
use Rattle.std.proofs.Common.{sym, ap, inl, inr, ⊎_elim, arith}
use Rattle.ps_text.specs.Answers.{first_of}
use Rattle.ps_text.specs.Parts.{Part, IsRead, IsJoined, IsBehind, give, either, then_by, times, many}
use Rattle.ps_text.proofs.Combinators.Laws.{Laws, Nothing, Or, When, Apart, weaker, Joint}
use Rattle.ps_text.proofs.Combinators.InPlace.{Covers, stops_by, read_as}
use Rattle.ps_text.proofs.Combinators.Joined.{joint, read_then}
use Rattle.ps_text.proofs.Combinators.Simple.{nil_is_cons, laws_give, laws_then}
use Rattle.ps_text.proofs.Combinators.Covered.{Avoids, Enters, laws_either}

-- if a text of P is followed by a text of Q that is also a text of R, the whole is a text of P followed by one of R
joined_as : {T A B : Type 0} {P : List T → A → Type 0} {Q R : A → List T → B → Type 0} {text : List T} {b : B} →
    (j : IsJoined P Q text b) → R j.value j.right b → IsJoined P R text b
joined_as j r = search rules

behind_as : {T A F : Type 0} {P : List T → A → Type 0} {Q R : A → List T → T → F → Type 0} {front : List T} {t : T}
    {f : F} → (j : IsBehind P Q front t f) → R j.value j.right t f → IsBehind P R front t f
behind_as j c = search rules

module _ {T C F : Type 0} (item : C → Part T C F) where
  abbrev pub more_items : C → Part T C F
  more_items c = then_by (item c) (λ d. many item d)

  pub covers_item : (c : C) (there : Option T) → Covers there (more_items c) (many item c)
  covers_item c there = record {
    text = λ text x h. (suc h.is_right.0, joined_as h h.is_right.1);
    cause = cause;
    text_back = λ t text x e h. text_back t text x h.0 h.1;
    cause_back = λ front t f e h. cause_back front t f h.0 h.1;
  }
    where
      cause : (front : List T) (t : T) (f : F) → (more_items c).IsCause front t f → (many item c).IsCause front t f
      cause front t f (inl k) = (suc zero, inl k)
      cause front t f (inr k) = (suc k.is_cause.0, inr (behind_as k k.is_cause.1))

      text_back : (t : T) (text : List T) (x : C) (n : ℕ) → (times n item c).IsText (t ∷ text) x →
          (more_items c).IsText (t ∷ text) x
      text_back t text x zero h = absurd (nil_is_cons t text (sym h.0))
      text_back t text x (suc n) h = joined_as h (n, h.is_right)

      cause_back : (front : List T) (t : T) (f : F) (n : ℕ) → (times n item c).IsCause front t f →
          (more_items c).IsCause front t f
      cause_back front t f zero h = absurd h
      cause_back front t f (suc n) (inl k) = inl k
      cause_back front t f (suc n) (inr k) = inr (behind_as k (n, k.is_cause))

  pub read_nothing : (c : C) (all : List T) →
      ((t : T) → first_of all ≡ Some t → Enters (many item c) (Some t) → ⊥) → IsRead (many item c) all c all
  read_nothing c all none = search (rules, stops_by, clean)
    where
      clean : (front rest : List T) (t : T) (f : F) → all ≡ front ++ t ∷ rest → length front < length {A = T} [] + 1 →
          (many item c).IsCause front t f → ⊥
      clean [] rest t f e n k = none t (ap first_of e) (inr (f, k))
      clean (s ∷ front) rest t f e n k = absurd (omega (arith, n))

  -- `upto n`: the grammar of up to n items
  abbrev upto : ℕ → C → Part T C F
  upto zero c = give c
  upto (suc n) c = either (give c) (then_by (item c) (λ d. upto n d))

  text_upto : (n m : ℕ) (c x : C) (text : List T) → m ≤ n → (times m item c).IsText text x → (upto n c).IsText text x
  text_upto zero zero c x text l h = h
  text_upto (suc n) zero c x text l h = inl h
  text_upto zero (suc m) c x text l h = absurd (omega (arith, l))
  text_upto (suc n) (suc m) c x text l h =
      inr (joined_as h (text_upto n m h.value x h.right (omega (arith, l)) h.is_right))

  cause_upto : (n m : ℕ) (c : C) (front : List T) (t : T) (f : F) → m ≤ n → (times m item c).IsCause front t f →
      (upto n c).IsCause front t f
  cause_upto n zero c front t f l h = absurd h
  cause_upto zero (suc m) c front t f l h = absurd (omega (arith, l))
  cause_upto (suc n) (suc m) c front t f l (inl k) = inr (inl k)
  cause_upto (suc n) (suc m) c front t f l (inr k) =
      inr (inr (behind_as k (cause_upto n m k.value k.right t f (omega (arith, l)) k.is_cause)))

module _ {T C F : Type 0} {odd : T → Type 0} (item : C → Part T C F) {First More : T → Type 0}
    (l : (c : C) → Laws odd (item c) First More ⊥) (apart : Apart More First) where
  -- the laws of an item followed by R, where each text of R is empty or begins with an item
  laws_more : {R : C → Part T C F} → ((d : C) → Laws odd (R d) First (Or More First) (Unit {0})) → (c : C) →
      Laws odd (then_by (item c) R) First (Or More First) ⊥
  laws_more r c = weaker (laws_then (l c) r apart) (λ t. grind arith) (λ t. ⊎_elim (λ h. h) (λ h. inl h.1)) (λ h. h.0)

  pub laws_times : (n : ℕ) (c : C) → Laws odd (times n item c) First (Or More First) (Unit {0})
  laws_times zero c = weaker (laws_give odd c) (λ t h. absurd h) (λ t h. absurd h) (λ h. tt)
  laws_times (suc n) c = weaker (laws_more (λ d. laws_times n d) c) (λ t h. h) (λ t h. h) (λ h. tt)

  laws_upto : (n : ℕ) (c : C) → Laws odd (upto item n c) First (Or More First) (Unit {0})
  laws_upto zero c = laws_times zero c
  laws_upto (suc n) c = weaker
      (laws_either (laws_give odd c) (laws_more (λ d. laws_upto n d) c) (λ t h k. h) (λ _ none. none))
      (λ t. ⊎_elim (λ h. absurd h) (λ h. h)) more (λ h. tt)
    where
      more : (t : T) → Or (Or Nothing (Or More First)) (Or (When (Unit {0}) First) (When ⊥ Nothing)) t → Or More First t
      more t h = grind arith

  pub laws_many : (value : C) → Laws odd (many item value) First (Or More First) (Unit {0})
  laws_many c = record {
    some = record { more = []; value = c; is_text = (zero, (refl, refl)) };
    one_value = λ text x y h k. let n = h.0 + k.0 in (laws_upto n c).one_value text x y
        (text_upto item n h.0 c x text (omega arith) h.1) (text_upto item n k.0 c y text (omega arith) k.1);
    first_text = λ t text x h. (laws_times h.0 c).first_text t text x h.1;
    first_cause = λ t f h. (laws_times h.0 c).first_cause t f h.1;
    more_text = λ text more t x y h k. let n = h.0 + k.0 in (laws_upto n c).more_text text more t x y
        (text_upto item n h.0 c x text (omega arith) h.1) (text_upto item n k.0 c y _ (omega arith) k.1);
    more_cause = λ text t x f h k. let n = h.0 + k.0 in (laws_upto n c).more_cause text t x f
        (text_upto item n h.0 c x text (omega arith) h.1) (cause_upto item n k.0 c text t f (omega arith) k.1);
    null = λ x h. tt;
    behind = λ front t f h. let b = (laws_times h.0 c).behind front t f h.1 in
        record { more = b.more; value = b.value; is_text = (h.0, b.is_text) };
    plain_text = λ front rest t x h o. (laws_times h.0 c).plain_text front rest t x h.1 o;
    plain_cause = λ front t f h o. (laws_times h.0 c).plain_cause front t f h.1 o;
  }

  pub joint_times : (n : ℕ) (c : C) → Joint (item c) (λ d. times n item d)
  joint_times n c = joint (l c) (λ d. laws_times n d) apart

  pub joint_many : (c : C) → Joint (item c) (λ d. many item d)
  joint_many c = joint (l c) (λ d. laws_many d) apart

  pub read_none : (c : C) (all : List T) → Avoids First (first_of all) → IsRead (many item c) all c all
  read_none c all a = read_nothing item c all none
    where
      none : (t : T) → first_of all ≡ Some t → Enters (many item c) (Some t) → ⊥
      none t e (inl b) = a t e ((laws_many c).first_text t b.more b.value b.is_text)
      none t e (inr k) = a t e ((laws_many c).first_cause t k.0 k.1)

  pub read_item : {c d e : C} {all mid rest : List T} → IsRead (item c) all d mid → IsRead (many item d) mid e rest →
      IsRead (many item c) all e rest
  read_item {c} p q = read_as (more_items item c) (many item c) (covers_item item c _) (read_then (joint_many c) p q)
