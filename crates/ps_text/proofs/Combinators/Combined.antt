-- Combined grammars satisfy the laws (`Laws`), with smaller sets of symbols than the general lemmas give.
-- - `both_within`, `wider_first`, `wider_more`: the union of two sets is within a third set if each of the two is; the
--   sets First and More may be replaced by larger ones
-- - `laws_first`: the laws of a grammar of one symbol, if a given set has each symbol that is accepted or is an error
-- - `laws_forms`: a choice between two grammars satisfies the laws, if neither has an empty text and they begin with
--   different symbols
-- - `laws_option`: `either P (give v)` (an optional P) satisfies the laws, if P has no empty text and no symbol
--   continues a text of P
-- - `laws_all`, `laws_times_all`: the grammar of any number of items, or of a given number of items, satisfies the
--   laws, if no item is empty and no symbol continues an item
-- - `laws_last`: a grammar and the grammar after it satisfy `Laws` together if no symbol both continues the first and
--   begins the second. The first grammar may have an empty text; no symbol continues a text of the second.
-- - `joint_tight`: if no symbol continues a text of the first of two grammars, it is clear where a text of the second
--   begins after it (`Joint`)
use Rattle.std.proofs.Common.{◌≡◌, ℕ, Option, Some, inl, inr, rules}
use Rattle.ps_text.specs.Parts.{Part, give, one, then_by, either, times, many}
use Rattle.ps_text.proofs.Combinators.Laws.{Laws, Joint, Nothing, Or, Within, Apart, weaker}
use Rattle.ps_text.proofs.Combinators.Joined.{joint}
use Rattle.ps_text.proofs.Combinators.Simple.{Taken, BadSign, laws_give, laws_one, laws_then}
use Rattle.ps_text.proofs.Combinators.Covered.{laws_either}
use Rattle.ps_text.proofs.Combinators.Repeated.{laws_times, laws_many}

pub both_within : {T : Type 0} {A B C : T → Type 0} → Within A C → Within B C → Within (Or A B) C
both_within h k = search rules

module _ {T V F : Type 0} {odd : T → Type 0} where
  pub wider_first : {P : Part T V F} {First First' More : T → Type 0} {Null : Type 0} →
      Laws odd P First More Null → Within First First' → Laws odd P First' More Null
  wider_first l f = weaker l f (λ t h. h) (λ n. n)

  pub wider_more : {P : Part T V F} {First More More' : T → Type 0} {Null : Type 0} →
      Laws odd P First More Null → Within More More' → Laws odd P First More' Null
  wider_more l m = weaker l (λ t h. h) m (λ n. n)

  pub laws_first : {take : T → Option V} {Bad : T → F → Type 0} {First : T → Type 0} (t : T) (v : V) → take t ≡ Some v →
      Apart First odd → Within (Taken take) First → Within (BadSign Bad) First → Laws odd (one take Bad) First Nothing ⊥
  laws_first {take} {Bad} t v e plain taken bad = wider_first (search (rules, laws_one)) (both_within taken bad)

  pub laws_forms : {P Q : Part T V F} {F1 F2 More : T → Type 0} → Laws odd P F1 More ⊥ → Laws odd Q F2 More ⊥ →
      Apart F1 F2 → Laws odd (either P Q) (Or F1 F2) More ⊥
  laws_forms l r apart = weaker (laws_either l r apart (λ n _. n)) (λ t h. h) (search (rules, both_within))
      (λ n. elim n [ inl x ↦ x | inr x ↦ x ])

  pub laws_option : {P : Part T V F} {First : T → Type 0} → Laws odd P First Nothing ⊥ → (v : V) →
      Laws odd (either P (give v)) First First (Unit {0})
  laws_option l v = weaker (laws_either l (laws_give odd v) (λ t _ b. b) (λ n _. n))
      (both_within (λ t h. h) (λ t h. absurd h)) (search (rules, both_within)) (λ _. tt)

  module _ (item : V → Part T V F) {First : T → Type 0} (l : (c : V) → Laws odd (item c) First Nothing ⊥) where
    pub laws_all : (c : V) → Laws odd (many item c) First First (Unit {0})
    laws_all c = wider_more (laws_many item l (λ t h _. h) c) (both_within (λ t h. absurd h) (λ t h. h))

    pub laws_times_all : (n : ℕ) (c : V) → Laws odd (times n item c) First First (Unit {0})
    laws_times_all n c = wider_more (laws_times item l (λ t h _. h) n c) (both_within (λ t h. absurd h) (λ t h. h))

module _ {T A B F : Type 0} {odd : T → Type 0} {P : Part T A F} {Q : A → Part T B F} {F1 F2 : T → Type 0} where
  pub joint_tight : {M2 : T → Type 0} {N1 N2 : Type 0} → Laws odd P F1 Nothing N1 →
      ((value : A) → Laws odd (Q value) F2 M2 N2) → Joint P Q
  joint_tight l r = joint l r (λ t h _. h)

  pub laws_last : {M1 : T → Type 0} → Laws odd P F1 M1 (Unit {0}) → ((a : A) → Laws odd (Q a) F2 Nothing ⊥) →
      Apart M1 F2 → Laws odd (then_by P Q) (Or F1 F2) Nothing ⊥
  laws_last l r apart = weaker (laws_then l r apart) (both_within (λ t h. inl h) (λ t h. inr h.1))
      (both_within (λ t h. h) (λ t h. absurd h.0)) (λ n. n.1)
