-- `barred P Bad` adds to the grammar P the errors that `Bad` states at the symbol after a text of P. The lemmas of this
-- file, except `laws_barred`, assume that no text of P continues with a symbol at which `Bad` states an error.
-- - `laws_barred`: `barred P Bad` satisfies the laws of grammars (`Laws`)
-- - `read_barred`: if P is parsed, and `Bad` states no error at the symbol after the parsed text, `barred P Bad` is
--   parsed
-- - `fault_barred`: the first fault of P is also the first fault of `barred P Bad`
-- - `fault_bar`: if P is parsed, and `Bad` states an error at the symbol after the parsed text, this is the first fault
-- - `reads_barred`, `stops_barred`, `stops_bar`: the results of a parsing function if P is parsed and no error of `Bad`
--   follows, if P has a fault, and if an error of `Bad` follows P
use Rattle.std.proofs.Common.{◌≡◌, ◌+◌, ◌≤◌, ◌⊎◌, List, [], ◌∷◌, ◌++◌, length, Option, Some, sym, ap, subst, inl}
use Rattle.std.proofs.Common.{inr, ⊎_elim, ◌∙◌, append_assoc, arith, rules}
use Rattle.ps_text.specs.Answers.{Begins, Stream, Found, first_of, next_of, offset_of}
use Rattle.ps_text.specs.Parts.{Part, Causes, IsRead, IsBroken, IsFault, is_cause, CleanUpTo, barred}
use Rattle.ps_text.specs.Readers.{Stops, Reads}
use Rattle.ps_text.proofs.Combinators.Splits.{Placed, inside, behind, placed, length_more, inside_of}
use Rattle.ps_text.proofs.Combinators.Laws.{Laws, Or, When, Apart}
use Rattle.ps_text.proofs.Combinators.InPlace.{stops_at, read_quiet, quiet_at, fault_begins, fault_from}
use Rattle.ps_text.proofs.Combinators.Joined.{text_begins}
use Rattle.ps_text.proofs.ParsedAnswers.Exits.{stops_as}

-- a symbol for which `Bad` states an error, if the symbol follows a text with some value
abbrev pub Bar : {T V F : Type 0} → (V → T → F → Type 0) → T → Type 0
Bar {T} {V} {F} Bad t = (v : V) × (f : F) × Bad v t f

module _ {T V F : Type 0} {odd : T → Type 0} {P : Part T V F} (Bad : V → T → F → Type 0) {First More : T → Type 0}
    {Null : Type 0} (l : Laws odd P First More Null) where
  pub laws_barred : Apart (Bar Bad) odd → Laws odd (barred P Bad) (Or First (When Null (Bar Bad)))
      (Or More (Bar Bad)) Null
  laws_barred plain = record {
    some = l.some;
    one_value = l.one_value;
    first_text = λ t text v h. inl (l.first_text t text v h);
    first_cause = λ t f. ⊎_elim (λ c. inl (l.first_cause t f c)) (λ c. inr (l.null c.0 c.1, (c.0, f, c.2)));
    more_text = λ text more t v w h k. inl (l.more_text text more t v w h k);
    more_cause = λ text t v f h. ⊎_elim (λ c. inl (l.more_cause text t v f h c)) (λ c. inr (c.0, f, c.2));
    null = l.null;
    behind = λ front t f. ⊎_elim (λ c. l.behind front t f c) (λ c. text_begins P.IsText c.1);
    plain_text = l.plain_text;
    plain_cause = search rules;
  }

  module _ (apart : Apart More (Bar Bad)) where
    -- `Bad` states no error at a symbol with which a text of P continues
    no_bar : (front m : List T) (t : T) (v : V) (f : F) → Begins P.IsText (front ++ t ∷ m) → P.IsText front v →
        Bad v t f → ⊥
    no_bar front m t v f b h c = apart t (grind (arith, append_assoc)) (v, f, c)

    clean_barred : {all front : List T} (rest : List T) → all ≡ front ++ rest → Begins P.IsText front →
        CleanUpTo P all (length front) → CleanUpTo (barred P Bad) all (length front)
    clean_barred rest e b clean fr r t f x n (inl c) = clean fr r t f x n c
    clean_barred rest e b clean fr r t f x n (inr c) =
        let i = inside_of rest fr r t e x n in no_bar fr i.0 t c.0 f (rw i.1 at b) c.1 c.2

    -- if a text of P has the values v and w, they are equal, so each error that `Bad` states for w is also stated for v
    bar_value : (text : List T) (t : T) (v w : V) (f : F) → P.IsText text v → P.IsText text w → Bad w t f → Bad v t f
    bar_value text t v w f h k c = subst (λ z. Bad z t f) (l.one_value text w v k h) c

    pub read_barred : {all rest : List T} {v : V} → ((t : T) (f : F) → first_of rest ≡ Some t → Bad v t f → ⊥) →
        IsRead P all v rest → IsRead (barred P Bad) all v rest
    read_barred {all} {rest} {v} good p = grind (arith, clean)
      where
        clean : CleanUpTo (barred P Bad) all (length p.text + 1)
        clean front r t f e n (inl c) = p.clean front r t f e n c
        clean front r t f e n (inr c) = go (placed p.text rest front r t (sym p.split ∙ e))
          where
            go : Placed p.text rest front r t → ⊥
            go (inside m x) = no_bar front m t c.0 f (rw x at (text_begins P.IsText p.is_text)) c.1 c.2
            go (behind [] x y) = search (rules, bar_value)
            go (behind (s ∷ m) x y) = omega (arith, n, length_more p.text m s, ap length x)

    pub fault_barred : {causes : Causes T F} {all rest : List T} {f : F} → IsFault causes P all f rest →
        IsFault causes (barred P Bad) all f rest
    fault_barred {causes} {all} {rest} {f} p = fault_from P (barred P Bad) p
        (clean_barred rest p.split (fault_begins l.behind p) p.clean) (λ b. b) (λ b. b.no_text)
        (λ b t e k. stops_at P p.front e b.stops k) (λ t c. inl c) (λ t g e. back t g)
      where
        back : (t : T) (g : F) → P.IsCause p.front t f ⊎ IsBroken P p.front (first_of rest) →
            (barred P Bad).IsCause p.front t g → P.IsCause p.front t g
        back t g _ (inl d) = d
        back t g (inl c) (inr d) = absurd (apart t (l.more_cause p.front t d.0 f d.1 c) (d.0, g, d.2))
        back t g (inr b) (inr d) = absurd (b.no_text d.0 d.1)

    pub fault_bar : (causes : Causes T F) {all rest : List T} {t : T} {v : V} {f : F} →
        IsRead P all v rest → first_of rest ≡ Some t → Bad v t f →
        ((g : F) → Bad v t g → causes.number f ≤ causes.number g) → IsFault causes (barred P Bad) all f rest
    fault_bar causes {all} {rest} {t} {v} {f} p e bad m = record {
      front = p.text;
      split = p.split;
      clean = clean_barred rest p.split (text_begins P.IsText p.is_text) (λ front r u g x n. grind arith);
      fault = is_cause t e (inr (v, p.is_text, bad)) least;
    }
      where
        least : (g : F) → (barred P Bad).IsCause p.text t g → causes.number f ≤ causes.number g
        least g h = grind (arith, quiet_at, read_quiet, bar_value)

    pub reads_barred : {old new : Stream T} {v : V} → ((t : T) (f : F) → next_of new ≡ Some t → Bad v t f → ⊥) →
        Reads P old v new → Reads (barred P Bad) old v new
    reads_barred good m = (m.0, read_barred good m.1)

    pub stops_barred : (causes : Causes T F) (old : Stream T) (o : Option (Found F)) → Stops causes P old o →
        Stops causes (barred P Bad) old o
    stops_barred causes old o s = stops_as causes P (barred P Bad) old (λ f rest p. fault_barred p) o s

    pub stops_bar : (causes : Causes T F) {old mid : Stream T} {v : V} → Reads P old v mid → (t : T) (f : F) (o : Option
        (Found F)) → next_of mid ≡ Some t → Bad v t f → ((g : F) → Bad v t g → causes.number f ≤ causes.number g) →
        o ≡ Some (record { cause = f; offset = offset_of mid.pieces mid.end }) → Stops causes (barred P Bad) old o
    stops_bar causes {old} {mid} m t f o n bad least k = grind (arith, fault_bar causes m.1 n bad least)
