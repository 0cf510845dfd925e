-- Grammars made by the combinators `give`, `one` and `mapped`: lemmas state when they are parsed and when they fail.
-- Grammars made by these combinators or by `then_by` satisfy the laws (`Laws`).
-- - `laws_give`, `laws_one`, `laws_mapped`, `laws_then`: a grammar that one of these combinators makes satisfies the
--   laws; for `then_by`, no symbol may both continue the first grammar and begin the second
-- - `refused`: the fault of a grammar without an empty text, if the next symbol does not begin the grammar
-- - `read_give`: the grammar `give v` is parsed without taking a symbol
-- - `taken_byte`: the grammar of a single given byte accepts only this byte
-- - `read_one`, `bad_one`, `refused_one`: the result of parsing one symbol, if the symbol is accepted, if it is an
--   error, and if it is not allowed or the text ends
-- - `read_mapped`, `fault_mapped`: if P is parsed, `mapped h P` is parsed; the first fault of P is the first fault of
--   `mapped h P`
use Rattle.std.proofs.Common.{◌≡◌, ◌≤◌, List, [], ◌∷◌, ◌++◌, Option, None, Some, refl, sym, ap, subst, inl, inr}
use Rattle.std.proofs.Common.{◌⊎◌, ◌∙◌, ℕ, append_assoc, arith, rules}
use Rattle.std.specs.Prelude.{◌==◌, if◌then◌else◌}
use Rattle.std.proofs.lemmas.Bool.{eqb-true}
use Rattle.ps_text.specs.Answers.{Begins, first_of}
use Rattle.ps_text.specs.Parts.{Part, Causes, IsRead, IsFault, is_cause, give, one, then_by, mapped, refusal_of}
use Rattle.ps_text.proofs.Combinators.Splits.{Placed, inside, behind, placed, same_head, same_tail}
use Rattle.ps_text.proofs.Combinators.Laws.{Laws, Nothing, Or, When, Apart}
use Rattle.ps_text.proofs.Combinators.InPlace.{stops_by, stops_at, quiet_by, fault_from}
use Rattle.ps_text.proofs.Combinators.Joined.{GoesOn, begins_left, begins_right, joint, text_behind, cause_behind}

-- if two options `Some` are equal, their values are equal
pub same_some : {T : Type 0} (other value : T) → Some other ≡ Some value → other ≡ value
same_some u t e = cc

-- `None` is not equal to `Some`
pub none_is_some : {T : Type 0} (value : T) → None ≡ Some value → ⊥
none_is_some {T} t e = let y : None ≡ Some t = e in cc

pub nil_is_cons : {T : Type 0} (t : T) (ts : List T) → [] ≡ t ∷ ts → ⊥
nil_is_cons t ts e = cc

pub append_nil_left : {T : Type 0} (a b : List T) → a ++ b ≡ [] → a ≡ []
append_nil_left [] b e = refl
append_nil_left (t ∷ a) b e = absurd cc

append_nil_right : {T : Type 0} (a b : List T) → a ++ b ≡ [] → b ≡ []
append_nil_right [] b e = e
append_nil_right (t ∷ a) b e = absurd cc

-- a list with a single symbol has nothing before or after this symbol
pub single_split : {T : Type 0} (front rest : List T) (t s : T) → front ++ t ∷ rest ≡ s ∷ [] →
    (front ≡ []) × (t ≡ s) × (rest ≡ [])
single_split [] rest t s e = (refl, same_head t s rest [] e, same_tail t s rest [] e)
single_split (u ∷ front) rest t s e = absurd (nil_is_cons t rest (sym (append_nil_right front (t ∷ rest) cc)))

-- if the next symbol does not begin P, which has no empty text, P has a fault at this symbol, namely that the symbol is
-- not allowed
pub refused : {T V F : Type 0} {odd : T → Type 0} {P : Part T V F} {First More : T → Type 0} →
    Laws odd P First More ⊥ → (causes : Causes T F) (all : List T) →
    ((t : T) → first_of all ≡ Some t → First t → ⊥) → IsFault causes P all (refusal_of causes (first_of all)) all
refused {P = P} l causes all avoided = search (rules, stops_by, quiet_by)

-- ## give

pub laws_give : {T V F : Type 0} (odd : T → Type 0) (value : V) →
    Laws odd (give {T = T} {V = V} {F = F} value) Nothing Nothing (Unit {0})
laws_give odd v = search (rules, nil_is_cons, append_nil_right, behind)

pub read_give : {T V F : Type 0} (all : List T) (v : V) → IsRead (give {T = T} {V = V} {F = F} v) all v all
read_give {T} {V} {F} all v = search (rules, stops_by, nil_is_cons)

-- ## one

-- the symbols that `one` accepts
abbrev pub Taken : {T V : Type 0} → (T → Option V) → T → Type 0
Taken {T} {V} take t = (v : V) × (take t ≡ Some v)

-- the symbols with an error in the grammar `one`: those for which its parameter `Bad` states an error
abbrev pub BadSign : {T F : Type 0} → (T → F → Type 0) → T → Type 0
BadSign {T} {F} Bad t = (f : F) × Bad t f

pub taken_byte : {b n : ℕ} {u : Unit {0}} → (if n == b then Some tt else None) ≡ Some u → n ≡ b
taken_byte {b} {n} {u} e = search (rules, eqb-true)

module _ {T V F : Type 0} (take : T → Option V) (Bad : T → F → Type 0) where
  pub laws_one : (odd : T → Type 0) (sign : T) (value : V) → take sign ≡ Some value → Apart (Taken take) odd →
      Apart (BadSign Bad) odd → Laws odd (one take Bad) (Or (Taken take) (BadSign Bad)) Nothing ⊥
  laws_one odd t v e plain plain_bad = record {
    some = record { more = t ∷ []; value = v; is_text = (t, refl, e) };
    one_value = λ text x y h k. same_some x y (sym h.2 ∙ ap take (same_head h.0 k.0 [] [] (sym h.1 ∙ k.1)) ∙ k.2);
    first_text = λ s text x h. inl (x, ap take (same_head s h.0 text [] h.1) ∙ h.2);
    first_cause = λ s f c. inr (f, c.1);
    more_text = λ text more s x y h k. nil_is_cons h.0 [] (sym (single_split text more s k.0 k.1).0 ∙ h.1);
    more_cause = λ text s x f h c. nil_is_cons h.0 [] (sym c.0 ∙ h.1);
    null = λ x h. nil_is_cons h.0 [] h.1;
    behind = λ front s f c. record { more = t ∷ []; value = v; is_text = (t, ap (λ z. z ++ t ∷ []) c.0, e) };
    plain_text = λ front rest s x h o. let p = single_split front rest s h.0 h.1 in plain s (x, ap take p.1 ∙ h.2) o;
    plain_cause = λ front s f c o. plain_bad s (f, c.1) o;
  }

  pub read_one : {t : T} {rest : List T} {v : V} → take t ≡ Some v → ((f : F) → Bad t f → ⊥) →
      IsRead (one take Bad) (t ∷ rest) v rest
  read_one {t} {rest} e good = record {
    text = t ∷ [];
    split = refl;
    is_text = (t, refl, e);
    stops = search (rules, stops_by, nil_is_cons, same_tail);
    clean = search (rules, same_head);
  }

  pub bad_one : (causes : Causes T F) (all : List T) (t : T) (f : F) → first_of all ≡ Some t → Bad t f →
      ((g : F) → Bad t g → causes.number f ≤ causes.number g) → IsFault causes (one take Bad) all f all
  bad_one causes all t f e b least = record {
    front = [];
    split = refl;
    clean = λ front more s g x l c. absurd (omega (arith, l));
    fault = is_cause t e (refl, b) (λ g c. least g c.1);
  }

  -- the grammar of one symbol has a text, because `take` accepts the symbol s
  pub refused_one : (causes : Causes T F) (s : T) (w : V) → take s ≡ Some w → (all : List T) →
      ((t : T) → first_of all ≡ Some t → take t ≡ None) → ((t : T) (f : F) → first_of all ≡ Some t → Bad t f → ⊥) →
      IsFault causes (one take Bad) all (refusal_of causes (first_of all)) all
  refused_one causes s w x all none good = refused (laws_one Nothing s w x (λ t h o. o) (λ t h o. o)) causes all avoided
    where
      avoided : (t : T) → first_of all ≡ Some t → Or (Taken take) (BadSign Bad) t → ⊥
      avoided t e h = grind (arith, none_is_some)

-- ## mapped

module _ {T A B F : Type 0} (h : A → B) (P : Part T A F) where
  unmapped : (text : List T) → Begins (mapped h P).IsText text → Begins P.IsText text
  unmapped text b = record { more = b.more; value = b.is_text.0; is_text = b.is_text.1 }

  pub mapped_begins : (text : List T) → Begins P.IsText text → Begins (mapped h P).IsText text
  mapped_begins text b = record { more = b.more; value = h b.value; is_text = (b.value, b.is_text, refl) }

  pub laws_mapped : {odd : T → Type 0} {First More : T → Type 0} {Null : Type 0} → Laws odd P First More Null →
      Laws odd (mapped h P) First More Null
  laws_mapped l = search (rules, mapped_begins, behind)

  pub read_mapped : {all rest : List T} {a : A} → IsRead P all a rest → IsRead (mapped h P) all (h a) rest
  read_mapped {rest = rest} {a = a} p = search (rules, stops_by, stops_at, unmapped)

  pub fault_mapped : {causes : Causes T F} {all rest : List T} {f : F} → IsFault causes P all f rest →
      IsFault causes (mapped h P) all f rest
  fault_mapped p = fault_from P (mapped h P) p p.clean (mapped_begins p.front) (λ b v i. b.no_text i.0 i.1)
      (λ b t e k. stops_at P p.front e b.stops (unmapped (p.front ++ t ∷ []) k)) (λ t c. c) (λ t g e _ c. c)

-- ## then_by

module _ {T A B F : Type 0} {odd : T → Type 0} {P : Part T A F} {Q : A → Part T B F} {F1 M1 F2 M2 : T → Type 0}
    {N1 N2 : Type 0}
    (l : Laws odd P F1 M1 N1) (r : (a : A) → Laws odd (Q a) F2 M2 N2) (apart : Apart M1 F2) where
  goes : (left : List T) (t : T) (a : A) → P.IsText left a → GoesOn P left (Some t) → M1 t
  goes left t a h g = grind (arith, same_some, append_assoc)

  -- a text of P does not continue with the first symbol of a text of Q
  halts : (left right : List T) (a : A) (x : B) → P.IsText left a → (Q a).IsText right x →
      GoesOn P left (first_of right) → ⊥
  halts left right a x h k g = search (rules, none_is_some, goes)

  values_then : (text : List T) (x y : B) → (then_by P Q).IsText text x → (then_by P Q).IsText text y → x ≡ y
  values_then text x y i k = go (text_behind (joint l r apart) i.left i.right i.value y i.is_left (grind arith))
    where
      go : (Q i.value).IsText i.right y ⊎ GoesOn P i.left (first_of i.right) → x ≡ y
      go h = search (rules, halts)

  first_then : (left right text : List T) (t : T) (a : A) (b : B) → t ∷ text ≡ left ++ right → P.IsText left a →
      (Q a).IsText right b → Or F1 (When N1 F2) t
  first_then [] right text t a b e h k = inr (l.null a h, (r a).first_text t text b (rw e k))
  first_then (s ∷ left) right text t a b e h k = search (rules, same_head)

  first_cause_then : (t : T) (f : F) → (then_by P Q).IsCause [] t f → Or F1 (When N1 F2) t
  first_cause_then t f cases = search (rules, append_nil_left, append_nil_right)

  -- if a text of P that is followed by a text of Q can continue with the next symbol, the text of Q is empty
  goes_then : (left right more : List T) (t : T) (a : A) (x : B) → P.IsText left a → (Q a).IsText right x →
      GoesOn P left (first_of (right ++ t ∷ more)) → When N2 M1 t
  goes_then left [] more t a x h k g = ((r a).null x k, goes left t a h g)
  goes_then left (s ∷ right) more t a x h k g = absurd (halts left (s ∷ right) a x h k g)

  more_then : (text more : List T) (t : T) (x y : B) → (then_by P Q).IsText text x →
      (then_by P Q).IsText (text ++ t ∷ more) y → Or M2 (When N2 M1) t
  more_then text more t x y i k = go (text_behind (joint l r apart) i.left (i.right ++ t ∷ more) i.value y i.is_left
      (grind (arith, append_assoc)))
    where
      go : (Q i.value).IsText (i.right ++ t ∷ more) y ⊎ GoesOn P i.left (first_of (i.right ++ t ∷ more)) →
          Or M2 (When N2 M1) t
      go (inl q) = inl ((r i.value).more_text i.right more t x y i.is_right q)
      go (inr g) = inr (goes_then i.left i.right more t i.value x i.is_left i.is_right g)

  more_cause_then : (text : List T) (t : T) (x : B) (f : F) → (then_by P Q).IsText text x →
      (then_by P Q).IsCause text t f → Or M2 (When N2 M1) t
  more_cause_then text t x f i k = go (cause_behind (joint l r apart) i.left i.right t i.value f i.is_left
      (subst (λ z. (then_by P Q).IsCause z t f) i.split k))
    where
      go : (Q i.value).IsCause i.right t f ⊎ (GoesOn P i.left (first_of (i.right ++ t ∷ [])) ⊎
          ((i.right ≡ []) × P.IsCause i.left t f)) → Or M2 (When N2 M1) t
      go (inl c) = inl ((r i.value).more_cause i.right t x f i.is_right c)
      go (inr (inl g)) = inr (goes_then i.left i.right [] t i.value x i.is_left i.is_right g)
      go (inr (inr c)) = search rules

  plain_then : (front rest : List T) (t : T) (v : B) → (then_by P Q).IsText (front ++ t ∷ rest) v → odd t → ⊥
  plain_then front rest t v i o = search (rules, placed, Placed, inside, behind)

  plain_cause_then : (front : List T) (t : T) (f : F) → (then_by P Q).IsCause front t f → odd t → ⊥
  plain_cause_then front t f cases o = search rules

  behind_then : (front : List T) (t : T) (f : F) → (then_by P Q).IsCause front t f → Begins (then_by P Q).IsText front
  behind_then front t f (inl c) = begins_left (joint l r apart) front (l.behind front t f c)
  behind_then front t f (inr k) = subst (Begins (then_by P Q).IsText) (sym k.split)
      (begins_right (joint l r apart) k.left k.right k.value k.is_left ((r k.value).behind k.right t f k.is_cause))

  pub laws_then : Laws odd (then_by P Q) (Or F1 (When N1 F2)) (Or M2 (When N2 M1)) (N1 × N2)
  laws_then = record {
    some = begins_left (joint l r apart) [] l.some;
    one_value = values_then;
    first_text = λ t text v i. first_then i.left i.right text t i.value v i.split i.is_left i.is_right;
    first_cause = first_cause_then;
    more_text = more_then;
    more_cause = more_cause_then;
    null = search (rules, append_nil_left, append_nil_right);
    behind = behind_then;
    plain_text = plain_then;
    plain_cause = plain_cause_then;
  }
