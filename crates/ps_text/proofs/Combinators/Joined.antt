-- `then_by P Q` is parsed if P and then Q are parsed. The first fault of `then_by P Q` is the first fault of P, or the
-- first fault of Q after P.
-- - `joint`: two grammars satisfy `Joint` (it is clear where a text of the second begins after one of the first) if
--   they satisfy `Laws`, and no symbol both continues the first and begins the second
-- - `text_behind`: if a text of `then_by P Q` begins with a text of P, and the next symbol can't continue the text of
--   P, the rest is a text of Q
-- - `cause_behind`: if an error of `then_by P Q` comes after a text of P, and the next symbol can't continue the text
--   of P, the error is an error of Q or of P
-- - `begins_left`, `begins_right`: `then_by P Q` has a text that begins with any given beginning of a text of P, and
--   one that begins with any text of P followed by a beginning of a text of Q
-- - `read_then`, `fault_left`, `fault_right`: `then_by P Q` is parsed if P and then Q are parsed; its first fault is
--   the first fault of P, or that of Q after a text of P
use Rattle.std.proofs.Common.{◌≡◌, ◌⊎◌, List, [], ◌∷◌, ◌++◌, length, Option, Some, refl, ap, subst}
use Rattle.std.proofs.Common.{inl, inr, append_assoc, append-nil, arith, rules}
use Rattle.ps_text.specs.Answers.{Begins, first_of}
use Rattle.ps_text.specs.Parts.{Part, Causes, IsRead, IsBroken, IsFault, CleanUpTo, StopsAt, IsBehind, then_by}
use Rattle.ps_text.proofs.Combinators.Splits.{Compared, shorter, same, longer, compared, inside_of}
use Rattle.ps_text.proofs.Combinators.Laws.{Laws, Joint, Apart}
use Rattle.ps_text.proofs.Combinators.InPlace.{stops_at, quiet_at, read_quiet, fault_begins, fault_from, Covers}
use Rattle.ps_text.proofs.Combinators.InPlace.{read_as, fault_as}
use Rattle.ps_text.proofs.Combinators.InPlace.{after, read_after, fault_after}

pub text_begins : {T V : Type 0} (IsText : List T → V → Type 0) {text : List T} {v : V} → IsText text v →
    Begins IsText text
text_begins IsText {text} {v} h = record { more = []; value = v; is_text = rw append-nil h }

-- a beginning of a text, cut after one of its symbols, is also a beginning of a text
pub begins_on : {T V : Type 0} (IsText : List T → V → Type 0) (front m : List T) (t : T) →
    Begins IsText (front ++ t ∷ m) → Begins IsText (front ++ t ∷ [])
begins_on IsText front m t b =
    record { more = m ++ b.more; value = b.value; is_text = simp append_assoc (simp append_assoc at b.is_text) }

-- after `front`, a text of P can continue with the next symbol
abbrev pub GoesOn : {T V F : Type 0} → Part T V F → List T → Option T → Type 0
GoesOn {T} P front there = (t : T) × (there ≡ Some t) × Begins P.IsText (front ++ t ∷ [])

-- the grammars P and Q satisfy `Joint` if they satisfy `Laws`, and no symbol both continues a text of P and begins a
-- text of Q
pub joint : {T A B F : Type 0} {odd : T → Type 0} {P : Part T A F} {Q : A → Part T B F} {F1 M1 F2 M2 : T → Type 0}
    {N1 N2 : Type 0} → Laws odd P F1 M1 N1 → ((value : A) → Laws odd (Q value) F2 M2 N2) → Apart M1 F2 → Joint P Q
joint {T} {A} {P = P} {M1 = M1} l r apart = grind (arith, append_assoc)

module _ {T A B F : Type 0} {P : Part T A F} {Q : A → Part T B F} (j : Joint P Q) where
  -- no text of Q begins with a symbol with which a text of P could continue
  not_inside : {front left right z : List T} {t : T} {a : A} (m : List T) → P.IsText left a → Begins P.IsText front →
      front ≡ left ++ t ∷ m → Begins (Q a).IsText right → right ≡ t ∷ z → ⊥
  not_inside {left = left} {z = z} {t = t} {a = a} m h b e c f = j.text_apart left m z t a h (rw e at b) (rw f at c)

  -- If a text of `then_by P Q` begins with a text of P, its rest is a text of Q, unless the text of P can continue with
  -- the next symbol.
  pub text_behind : (left y : List T) (a : A) (b : B) → P.IsText left a → (then_by P Q).IsText (left ++ y) b →
      (Q a).IsText y b ⊎ GoesOn P left (first_of y)
  text_behind left y a b h k = go (compared left y k.left k.right k.split)
    where
      go : Compared left y k.left k.right → (Q a).IsText y b ⊎ GoesOn P left (first_of y)
      go (same e f) = inl (rw (f, j.one_value left a k.value h (rw (← e) at k.is_left)) k.is_right)
      go (shorter t m e f) = grind (arith, begins_on P.IsText left m t (rw e at (text_begins P.IsText k.is_left)))
      go (longer t m e f) = search (rules, not_inside, text_begins)

  -- An error of `then_by P Q`, after a text of P, is an error of Q, unless a text of P continues with the next symbol
  -- or P has this error itself.
  pub cause_behind : (left y : List T) (t : T) (a : A) (f : F) → P.IsText left a → (then_by P Q).IsCause
      (left ++ y) t f → (Q a).IsCause y t f ⊎ (GoesOn P left (first_of (y ++ t ∷ [])) ⊎ ((y ≡ []) × P.IsCause left t f))
  cause_behind left [] t a f h (inl c) = inr (inr (refl, rw append-nil at c))
  cause_behind left (s ∷ y) t a f h (inl c) = search (rules, begins_on)
  cause_behind left y t a f h (inr k) = go (compared left y k.left k.right k.split)
    where
      go : Compared left y k.left k.right →
          (Q a).IsCause y t f ⊎ (GoesOn P left (first_of (y ++ t ∷ [])) ⊎ ((y ≡ []) × P.IsCause left t f))
      go (same e g) = inl (rw (g, j.one_value left a k.value h (rw (← e) at k.is_left)) k.is_cause)
      go (shorter u m e g) = grind (arith, begins_on P.IsText left m u (rw e at (text_begins P.IsText k.is_left)))
      go (longer u m e g) = absurd
          (not_inside m k.is_left (text_begins P.IsText h) e (j.behind_right k.value k.right t f k.is_cause) g)

  -- Let `front` begin a text of P but be no text of P itself, and let no text of P continue with the next symbol. Then
  -- no text of `then_by P Q` begins with `front` and the next symbol.
  no_text_on : (front y : List T) (b : B) → Begins P.IsText front → ((a : A) → P.IsText front a → ⊥) →
      StopsAt P front (first_of y) → (then_by P Q).IsText (front ++ y) b → ⊥
  no_text_on front y b begun none s k = go (compared front y k.left k.right k.split)
    where
      go : Compared front y k.left k.right → ⊥
      go (same e f) = none k.value (rw (← e) at k.is_left)
      go (shorter t m e f) =
          stops_at P front (ap first_of f) s (begins_on P.IsText front m t (rw e at (text_begins P.IsText k.is_left)))
      go (longer t m e f) = not_inside m k.is_left begun e (text_begins (Q k.value).IsText k.is_right) f

  -- if `front` begins a text of P, and Q has an error at the next symbol, then Q begins at this symbol: the text of P
  -- before Q is all of `front`
  no_behind : (front : List T) (t : T) (f : F) → Begins P.IsText front →
      ((a : A) → P.IsText front a → (Q a).IsCause [] t f → ⊥) → IsBehind P.IsText (λ a. (Q a).IsCause) front t f → ⊥
  no_behind front t f begun none k = go k.right k.split k.is_cause
    where
      go : (right : List T) → front ≡ k.left ++ right → (Q k.value).IsCause right t f → ⊥
      go [] e r = none k.value (rw (e, append-nil) k.is_left) r
      go (s ∷ right) e r = not_inside right k.is_left begun e (j.behind_right k.value (s ∷ right) t f r) refl

  -- Q has no error at a symbol with which a text of P continues
  no_inner : (front m : List T) (t : T) (f : F) → IsBehind P.IsText (λ a. (Q a).IsCause) front t f →
      Begins P.IsText (front ++ t ∷ m) → ⊥
  no_inner front m t f k b = grind (arith, go, append_assoc)
    where
      go : (right : List T) → (Q k.value).IsCause right t f → Begins P.IsText (k.left ++ (right ++ t ∷ m)) → ⊥
      go [] c b = j.cause_apart k.left m t k.value f k.is_left b c
      go (s ∷ right) c b = not_inside (right ++ t ∷ m) k.is_left b refl (j.behind_right k.value (s ∷ right) t f c) refl

  -- a list of symbols that begins a text of P also begins a text of `then_by P Q`
  pub begins_left : (front : List T) → Begins P.IsText front → Begins (then_by P Q).IsText front
  begins_left front b = let c = j.some_right b.value in record {
    more = b.more ++ c.more;
    value = c.value;
    is_text = grind (arith, append_assoc);
  }

  pub begins_right : (left right : List T) (a : A) → P.IsText left a → Begins (Q a).IsText right →
      Begins (then_by P Q).IsText (left ++ right)
  begins_right left right a h b = grind (arith, append_assoc)

  -- if `front` begins a text of P, and P has no error in `front`, then `then_by P Q` has no error in `front`
  clean_left : {all front : List T} (rest : List T) → all ≡ front ++ rest → Begins P.IsText front →
      CleanUpTo P all (length front) → CleanUpTo (then_by P Q) all (length front)
  clean_left rest e b clean fr r t f x l (inl c) = clean fr r t f x l c
  clean_left rest e b clean fr r t f x l (inr k) =
      let i = inside_of rest fr r t e x l in no_inner fr i.0 t f k (rw i.1 at b)

  -- after P was parsed, the result of parsing `then_by P Q` is the result of parsing Q
  module _ {all mid : List T} {a : A} (p : IsRead P all a mid) where
    clean_text : CleanUpTo (then_by P Q) all (length p.text)
    clean_text = clean_left mid p.split (text_begins P.IsText p.is_text) (λ front r t f e l. grind arith)

    covers_behind : Covers (first_of mid) (Q a) (after (then_by P Q) p.text)
    covers_behind = search (rules, text_of, text_behind, cause_of, cause_behind)
      where
        text_of : (t : T) (text : List T) (v : B) → first_of mid ≡ Some t →
            (Q a).IsText (t ∷ text) v ⊎ GoesOn P p.text (Some t) → (Q a).IsText (t ∷ text) v
        text_of t text v e h = grind (arith, stops_at)

        cause_of : (front : List T) (t : T) (f : F) → first_of mid ≡ first_of (front ++ t ∷ []) →
            (Q a).IsCause front t f ⊎ (GoesOn P p.text (first_of (front ++ t ∷ [])) ⊎
            ((front ≡ []) × P.IsCause p.text t f)) → (Q a).IsCause front t f
        cause_of front t f e h = grind (arith, quiet_at, read_quiet)

    pub read_then : {rest : List T} {second : B} → IsRead (Q a) mid second rest → IsRead (then_by P Q) all second rest
    read_then q = read_after (then_by P Q) p.text p.split clean_text (read_as (Q a) _ covers_behind q)

    pub fault_right : {causes : Causes T F} {rest : List T} {f : F} → IsFault causes (Q a) mid f rest →
        IsFault causes (then_by P Q) all f rest
    fault_right q = fault_after (then_by P Q) p.text p.split clean_text (fault_as (Q a) _ covers_behind starts q)
      where
        starts : IsBroken (Q a) [] (first_of mid) → (v : B) → (then_by P Q).IsText (p.text ++ []) v → ⊥
        starts b v k = grind (arith, text_behind p.text [] a v p.is_text k)

  pub fault_left : {causes : Causes T F} {all rest : List T} {f : F} → IsFault causes P all f rest →
      IsFault causes (then_by P Q) all f rest
  fault_left {causes} {all} {rest} {f} p = fault_from P (then_by P Q) p (clean_left rest p.split begun p.clean)
      (begins_left p.front) (λ b v k. no_text_on p.front [] v b.before b.no_text tt (rw append-nil k))
      (λ b t e k. no_text_on p.front (t ∷ k.more) k.value b.before b.no_text (subst (StopsAt P p.front) e b.stops)
      (rw append_assoc at k.is_text)) (λ t c. inl c) (λ t g e. back t g)
    where
      begun : Begins P.IsText p.front
      begun = fault_begins j.behind_left p

      back : (t : T) (g : F) → P.IsCause p.front t f ⊎ IsBroken P p.front (first_of rest) →
          (then_by P Q).IsCause p.front t g → P.IsCause p.front t g
      back t g _ (inl c) = c
      back t g (inl c) (inr k) = absurd (no_behind p.front t g begun (λ a h d. j.causes_apart p.front t a f g h c d) k)
      back t g (inr b) (inr k) = absurd (no_behind p.front t g begun (λ a h d. b.no_text a h) k)
