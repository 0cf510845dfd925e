-- A grammar that has the same result, or the same first fault, as another grammar.
-- - `stops_by`, `stops_at`, `quiet_by`, `quiet_at`: `StopsAt` holds exactly if no text continues with the next symbol,
--   and `NoCauseAt` exactly if this symbol is no error
-- - `read_quiet`: after a grammar was parsed, the symbol after the parsed text is not an error of the grammar
-- - `fault_begins`: the symbols before a first fault begin a text of the grammar
-- - `fault_from`: the first fault of P is also the first fault of R, if R has no error before the fault's position, and
--   accepts and rejects at this position what P does
-- - `Covers there P Q`: Q has all texts and errors of P; each further text or error of Q begins with a symbol other
--   than `there`
-- - `read_as`, `fault_as`: if `Covers` holds for P and Q, each result of parsing P is a result of parsing Q, and the
--   first fault of P is the first fault of Q
-- - `after P left`: the grammar of what can still follow in a text of the grammar P after the symbols `left`
-- - `read_after`, `fault_after`: if P has no error in the symbols `left`, a result of parsing `after P left` behind
--   them is a result of parsing P
use Rattle.std.proofs.Common.{◌≡◌, ℕ, ◌+◌, ◌⊎◌, List, [], ◌∷◌, ◌++◌, length, Option, Some, refl, ap, subst}
use Rattle.std.proofs.Common.{inl, ◌∙◌, append_assoc, arith, length-append, rules}
use Rattle.ps_text.specs.Answers.{Begins, first_of}
use Rattle.ps_text.specs.Parts.{Part, Causes, IsRead, IsBroken, IsFault, IsFaultAt, is_cause, is_refusal, CleanUpTo}
use Rattle.ps_text.specs.Parts.{StopsAt, NoCauseAt}
use Rattle.ps_text.proofs.Combinators.Splits.{inside, behind, placed, length_more, head_of}

module _ {T V F : Type 0} (P : Part T V F) (front : List T) where
  pub stops_by : (there : Option T) → ((t : T) → there ≡ Some t → Begins P.IsText (front ++ t ∷ []) → ⊥) →
      StopsAt P front there
  stops_by there h = search rules

  pub stops_at : {there : Option T} {t : T} → there ≡ Some t → StopsAt P front there →
      Begins P.IsText (front ++ t ∷ []) → ⊥
  stops_at {t = t} e s = subst (StopsAt P front) e s

  pub quiet_by : (there : Option T) → ((t : T) (f : F) → there ≡ Some t → P.IsCause front t f → ⊥) →
      NoCauseAt P front there
  quiet_by there h = search rules

  pub quiet_at : {there : Option T} {t : T} {f : F} → there ≡ Some t → NoCauseAt P front there → P.IsCause front t f → ⊥
  quiet_at {f = f} e n = subst (NoCauseAt P front) e n f

-- after a grammar was parsed, the symbol after the parsed text is not an error of the grammar
pub read_quiet : {T V F : Type 0} {P : Part T V F} {all rest : List T} {v : V} → (p : IsRead P all v rest) →
    NoCauseAt P p.text (first_of rest)
read_quiet {P = P} {rest = rest} p = search (rules, quiet_by, head_of)

-- the symbols before the first fault begin a text of the grammar, if the symbols before each error of the grammar begin
-- a text of it
pub fault_begins : {T V F : Type 0} {P : Part T V F} {causes : Causes T F} {all rest : List T} {f : F} →
    ((front : List T) (t : T) (f : F) → P.IsCause front t f → Begins P.IsText front) →
    (p : IsFault causes P all f rest) → Begins P.IsText p.front
fault_begins {P = P} {causes = causes} {rest = rest} {f = f} begins p = search rules

pub fault_from : {T A B F : Type 0} (P : Part T A F) (R : Part T B F) {causes : Causes T F} {all rest : List T}
    {f : F} → (p : IsFault causes P all f rest) → CleanUpTo R all (length p.front) → (Begins P.IsText p.front →
    Begins R.IsText p.front) → (IsBroken P p.front (first_of rest) → (v : B) → R.IsText p.front v → ⊥) → (IsBroken
    P p.front (first_of rest) → (t : T) → first_of rest ≡ Some t → Begins R.IsText (p.front ++ t ∷ []) → ⊥) → ((t : T) →
    P.IsCause p.front t f → R.IsCause p.front t f) → ((t : T) (g : F) → first_of rest ≡ Some t → P.IsCause p.front t f
    ⊎ IsBroken P p.front (first_of rest) → R.IsCause p.front t g → P.IsCause p.front t g) → IsFault causes R all f rest
fault_from {T} {A} {B} {F} P R {causes} {all} {rest} {f} p clean begins no_text stops cause back = search (rules, go)
  where
    go : IsFaultAt causes P p.front (first_of rest) f → IsFaultAt causes R p.front (first_of rest) f
    go (is_cause t e c least) = is_cause t e (cause t c) (λ g k. least g (back t g e (inl c) k))
    go (is_refusal b e) = search (rules, stops_by, quiet_by, quiet_at)

-- ## One grammar in place of another

pub record Covers {T V F : Type 0} (there : Option T) (P Q : Part T V F) : Type 0 where
  pub text : (text : List T) (v : V) → P.IsText text v → Q.IsText text v
  pub cause : (front : List T) (t : T) (f : F) → P.IsCause front t f → Q.IsCause front t f
  pub text_back : (t : T) (text : List T) (v : V) → there ≡ Some t → Q.IsText (t ∷ text) v → P.IsText (t ∷ text) v
  pub cause_back : (front : List T) (t : T) (f : F) → there ≡ first_of (front ++ t ∷ []) → Q.IsCause front t f →
      P.IsCause front t f

-- if `front` and then t are the first symbols of `all`, `all` begins with the same symbol as `front` followed by t
sign_of : {T : Type 0} {all : List T} {t : T} (front rest : List T) → all ≡ front ++ rest → first_of rest ≡ Some t →
    first_of all ≡ first_of (front ++ t ∷ [])
sign_of [] rest e x = ap first_of e ∙ x
sign_of (s ∷ front) rest e x = ap first_of e

module _ {T V F : Type 0} (P Q : Part T V F) where
  begins_as : {there : Option T} (front : List T) (t : T) → Covers there P Q → there ≡ first_of (front ++ t ∷ []) →
      Begins Q.IsText (front ++ t ∷ []) → Begins P.IsText (front ++ t ∷ [])
  begins_as [] t c e b = search rules
  begins_as (s ∷ front) t c e b = search rules

  pub read_as : {all rest : List T} {value : V} → Covers (first_of all) P Q → IsRead P all value rest →
      IsRead Q all value rest
  read_as {all} {rest} {value = v} c p = search (rules, stops_by, stops_at, begins_as, sign_of)

  pub fault_as : {causes : Causes T F} {all rest : List T} {f : F} → Covers (first_of all) P Q → (IsBroken P []
      (first_of all) → (v : V) → Q.IsText [] v → ⊥) → IsFault causes P all f rest → IsFault causes Q all f rest
  fault_as {all = all} {rest = rest} {f = f} c starts p = fault_from P Q p (λ front r t g e l k. p.clean front r t g e l
      (c.cause_back front t g (grind (arith, sign_of front (t ∷ r) e refl)) k))
      (λ b. record { more = b.more; value = b.value; is_text = grind arith }) (no_text p.front p.split)
      (λ b t e k. grind (arith, stops_at, begins_as, sign_of)) (λ t d. c.cause p.front t f d)
      (λ t g e _ k. c.cause_back p.front t g (sign_of p.front rest p.split e) k)
    where
      no_text : (front : List T) → all ≡ front ++ rest → IsBroken P front (first_of rest) → (v : V) →
          Q.IsText front v → ⊥
      no_text [] e b v k = starts (rw e b) v k
      no_text (t ∷ front) e b v k = b.no_text v (c.text_back t front v (ap first_of e) k)

-- ## After some symbols

abbrev pub after : {T V F : Type 0} → Part T V F → List T → Part T V F
after P left =
    record { IsText = λ text v. P.IsText (left ++ text) v; IsCause = λ front t f. P.IsCause (left ++ front) t f }

module _ {T V F : Type 0} (P : Part T V F) (left : List T) where
  stops_after : (front : List T) (there : Option T) → StopsAt (after P left) front there →
      StopsAt P (left ++ front) there
  stops_after front there s = grind (arith, stops_by, stops_at, append_assoc)

  clean_after : {all : List T} (mid : List T) (n : ℕ) → all ≡ left ++ mid →
      CleanUpTo P all (length left) → CleanUpTo (after P left) mid n → CleanUpTo P all (length left + n)
  clean_after mid n split p q front r t f e l c = grind (arith, placed, inside, length_more, behind, length-append)

  pub read_after : {all mid rest : List T} {v : V} →
      all ≡ left ++ mid → CleanUpTo P all (length left) → IsRead (after P left) mid v rest → IsRead P all v rest
  read_after {mid = mid} {rest = rest} split c p = record {
    text = left ++ p.text;
    split = rw (append_assoc, ← p.split) split;
    is_text = p.is_text;
    stops = stops_after p.text (first_of rest) p.stops;
    clean = λ front r t f e l. clean_after mid (length p.text + 1) split c p.clean front r t f e
        (omega (arith, l, length-append left p.text));
  }

  pub fault_after : {causes : Causes T F} {all mid rest : List T} {f : F} → all ≡ left ++ mid →
      CleanUpTo P all (length left) → IsFault causes (after P left) mid f rest → IsFault causes P all f rest
  fault_after {causes} {all} {mid} {rest} {f} split c p = record {
    front = left ++ p.front;
    split = rw (append_assoc, ← p.split) split;
    clean = rw length-append (clean_after mid (length p.front) split c p.clean);
    fault = go p.fault;
  }
    where
      go : IsFaultAt causes (after P left) p.front (first_of rest) f →
          IsFaultAt causes P (left ++ p.front) (first_of rest) f
      go (is_cause t e d least) = is_cause t e d least
      go (is_refusal b e) = grind (arith, append_assoc, stops_after)
