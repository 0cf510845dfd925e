-- Products that are made cover by cover, and pruning.
use Rattle.std.proofs.Common.{ℕ, inl, inr, List, [], ◌∷◌, ◌++◌, subst, sym}
use Rattle.std.proofs.lemmas.List.Elements.{Contains-append_cases, Contains-append_left, Contains-append_right}
use Rattle.std.proofs.lemmas.List.Elements.{Contains-push, Contains-push_cases}
use Rattle.std.specs.Prelude.{IsTrue}
use Rattle.ps_tableau.specs.Inner.Joins.{AreApart}
use Rattle.ps_tableau.specs.Covers.{Cover, of_known}
use Rattle.ps_tableau.specs.Operators.{AreProducts, ArePruned, IsBetter, IsJoin}
use Rattle.ps_tableau.proofs.Members.{first_in, in_none, in_one}

-- ## One cover with each of some others

pub row_none : (a : Cover) → AreProducts (a ∷ []) [] []
row_none a = record { each = λ c there. in_none c there; all = λ x y letter first second s t. in_none y second }

pub row_join : {a b c : Cover} {ys zs : List Cover} → AreProducts (a ∷ []) ys zs → IsJoin a b c →
    AreProducts (a ∷ []) (ys ++ b ∷ []) (zs ++ c ∷ [])
row_join {a} {b} {c} {ys} {zs} products join = record {
  each = λ d there. elim (Contains-push_cases zs c d there) [
    | inl old ↦
        let p = products.each d old in (p.0, p.1, p.2, Contains-append_left ys (b ∷ []) p.1 p.3, p.4)
    | inr is ↦ (a, b, first_in a [], Contains-push ys b, subst (λ (x : Cover). IsJoin a b x) is join)
  ];
  all = λ x y letter in_first in_second s t. elim (Contains-push_cases ys b y in_second) [
    | inl old ↦
        let p = products.all x y letter in_first old s t in (p.0, Contains-append_left zs (c ∷ []) p.0 p.1, p.2)
    | inr is ↦ (
      c,
      Contains-push zs c,
      subst (λ (u : Cover). IsJoin u y c) (in_one a x in_first) (subst (λ (v : Cover). IsJoin a v c) is join),
    )
  ];
}

pub row_skip : {a : Cover} (b : Cover) {ys zs : List Cover} → AreProducts (a ∷ []) ys zs → AreApart a b →
    AreProducts (a ∷ []) (ys ++ b ∷ []) zs
row_skip {a} b {ys} {zs} products apart = record {
  each = λ d there.
      let p = products.each d there in (p.0, p.1, p.2, Contains-append_left ys (b ∷ []) p.1 p.3, p.4);
  all = λ x y letter in_first in_second s t. elim (Contains-push_cases ys b y in_second) [
    | inl old ↦ products.all x y letter in_first old s t
    | inr is ↦ absurd (apart letter (subst (λ (u : Cover). IsTrue (u.guard letter)) (sym (in_one a x in_first)) s)
        (subst (λ (v : Cover). IsTrue (v.guard letter)) (sym is) t))
  ];
}

-- ## Rows

pub products_none : (ys : List Cover) → AreProducts [] ys []
products_none ys = record { each = λ c there. in_none c there; all = λ x y letter first second s t. in_none x first }

pub products_row : {a : Cover} {xs ys zs more : List Cover} → AreProducts xs ys zs → AreProducts (a ∷ []) ys more →
    AreProducts (xs ++ a ∷ []) ys (zs ++ more)
products_row {a} {xs} {ys} {zs} {more} products row = record {
  each = λ d there. elim (Contains-append_cases zs more d there) [
    | inl old ↦
        let p = products.each d old in (p.0, p.1, Contains-append_left xs (a ∷ []) p.0 p.2, p.3, p.4)
    | inr new ↦ let p = row.each d new in (p.0, p.1, Contains-append_right xs (a ∷ []) p.0 p.2, p.3, p.4)
  ];
  all = λ x y letter in_first in_second s t. elim (Contains-append_cases xs (a ∷ []) x in_first) [
    | inl old ↦
        let p = products.all x y letter old in_second s t in (p.0, Contains-append_left zs more p.0 p.1, p.2)
    | inr new ↦ let p = row.all x y letter new in_second s t in (p.0, Contains-append_right zs more p.0 p.1, p.2)
  ];
}

-- ## Pruning

pub better_refl : (c : Cover) (letter : ℕ) → IsTrue (c.guard letter) → IsBetter c c letter
better_refl c letter serves = record { serves = serves; next = λ f asked. of_known asked; postponed = λ f asked. asked }

pub pruned_refl : (covers : List Cover) → ArePruned covers covers
pruned_refl covers = record {
  sound = λ c letter there serves. (c, there, better_refl c letter serves);
  complete = λ c letter there serves. (c, there, better_refl c letter serves);
}

pub products_columns : {a : Cover} {ys zs more others : List Cover} → AreProducts (a ∷ []) ys zs →
    AreProducts (a ∷ []) others more → AreProducts (a ∷ []) (ys ++ others) (zs ++ more)
products_columns {a} {ys} {zs} {more} {others} products row = record {
  each = λ d there. elim (Contains-append_cases zs more d there) [
    | inl old ↦
        let p = products.each d old in (p.0, p.1, p.2, Contains-append_left ys others p.1 p.3, p.4)
    | inr new ↦ let p = row.each d new in (p.0, p.1, p.2, Contains-append_right ys others p.1 p.3, p.4)
  ];
  all = λ x y letter in_first in_second s t. elim (Contains-append_cases ys others y in_second) [
    | inl old ↦
        let p = products.all x y letter in_first old s t in (p.0, Contains-append_left zs more p.0 p.1, p.2)
    | inr new ↦
        let p = row.all x y letter in_first new s t in (p.0, Contains-append_right zs more p.0 p.1, p.2)
  ];
}

pub one_join : {a b c : Cover} → IsJoin a b c → AreProducts (a ∷ []) (b ∷ []) (c ∷ [])
one_join {a} {b} {c} join = row_join (row_none a) join

pub no_join : (a b : Cover) → AreApart a b → AreProducts (a ∷ []) (b ∷ []) []
no_join a b apart = row_skip b (row_none a) apart
