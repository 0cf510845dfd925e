-- Kept covers of sets, as a board grows and as more are kept.
use Rattle.std.proofs.Common.{◌≡◌, ◌∙◌, ℕ, ◌+◌, ◌<◌, inl, inr, List, [], ◌∷◌, ◌++◌, Some, ap, arith, drop, get_or}
use Rattle.std.proofs.Common.{Bool, drop-cons, length, map, length-append, refl, subst, sym, true, Vec}
use Rattle.std.proofs.Math.Numerals.{add-one}
use Rattle.std.proofs.lemmas.Option.{slice_get-get_or, slice_get_within}
use Rattle.std.specs.Global.{Global}
use Rattle.std.specs.List.{slice_get}
use Rattle.std.specs.Prelude.{Err, Ok, Result}
use Rattle.std.specs.Result.{IsErrAnd}
use Rattle.ps_formula.proofs.Tables.{get_pushed, old_or_pushed}
use Rattle.ps_formula.specs.NormalForms.{NormalFormula, normal_formula_at}
use Rattle.ps_keys.specs.Keys.{IsPlacedKey}
use Rattle.ps_tableau.proofs.BoardLemmas.{formulas_kept, makes_kept}
use Rattle.ps_tableau.specs.Boards.{AreKnown, Grows, HasCovers, formulas_in}
use Rattle.ps_tableau.specs.Covers.{AreCoversOf}
use Rattle.ps_tableau.specs.Inner.Calls.{GivesKnown}
use Rattle.ps_tableau.specs.Inner.Joins.{IsPlaceOf}
use Rattle.ps_tableau.specs.Sets.{IsSet}
use Rattle.ps_tableau.specs.declared.board.Board.{Board}
use Rattle.ps_tableau.specs.declared.edge.Edge.{Edge}
use Rattle.ps_tableau.specs.declared.known.Known.{Known}

pub known_kept : {old new : Board} {known : Known} → Grows old new → AreKnown old known → AreKnown new known
known_kept {old} {new} {known} grows is = record {
  count = is.count;
  held = λ place set at. grows.sets.held set (is.held place set at);
  each = λ place set covers at there.
      subst (λ (fs : List NormalFormula). HasCovers new fs covers.items)
      (sym (formulas_kept grows (is.held place set at)))
      (makes_kept {P = AreCoversOf (formulas_in old set)} grows (is.each place set covers at there));
}

pub place_kept : {old new : Board} {known : Known} {indices : List ℕ} {place : ℕ} → Grows old new →
    AreKnown old known → IsPlaceOf old known indices place → IsPlaceOf new known indices place
place_kept {old} {new} {known} {indices} {place} grows is at = record {
  set = at.set;
  there = at.there;
  is = grows.sets.same at.set (is.held place at.set at.there) ∙ at.is;
}

pub place_within : {b : Board} {known : Known} {indices : List ℕ} {place : ℕ} → IsPlaceOf b known indices place →
    place < length known.sets
place_within {b} {known} {indices} {place} at = slice_get_within known.sets place at.set at.there

pub covers_at : {b : Board} {known : Known} {indices : List ℕ} {place : ℕ} (covers : Vec Edge Global) →
    AreKnown b known → IsPlaceOf b known indices place → covers ≡ get_or known.covers.items place covers →
    HasCovers b (map (normal_formula_at b.formulas) indices) covers.items
covers_at {b} {known} {indices} {place} covers is at here =
    let low : place < length known.sets = slice_get_within known.sets place at.set at.there in
    let within : place < length known.covers.items = omega (arith, low, is.count) in
    let there = slice_get-get_or known.covers.items place covers within
    ∙ ap (λ (v : Vec Edge Global). Some v) (sym here) in
    subst (λ (ks : List ℕ). HasCovers b (map (normal_formula_at b.formulas) ks) covers.items) at.is
    (is.each place at.set covers at.there there)

pub known_same : {b : Board} {old new : Known} → AreKnown b old → new.sets ≡ old.sets →
    new.covers.items ≡ old.covers.items → AreKnown b new
known_same {b} {old} {new} is sets covers = record {
  count = ap length sets ∙ is.count ∙ sym (ap length covers);
  held = λ place set at. is.held place set (subst (λ (xs : List ℕ). slice_get xs place ≡ Some set) sets at);
  each = λ place set more at there.
      is.each place set more (subst (λ (xs : List ℕ). slice_get xs place ≡ Some set) sets at)
      (subst (λ (xs : List (Vec Edge Global)). slice_get xs place ≡ Some more) covers there);
}

pub known_more : {b : Board} {old new : Known} (set : ℕ) (covers : Vec Edge Global) → AreKnown b old →
    new.sets ≡ old.sets ++ set ∷ [] → new.covers.items ≡ old.covers.items ++ covers ∷ [] → IsSet b.sets set →
    HasCovers b (formulas_in b set) covers.items → AreKnown b new
known_more {b} {old} {new} set covers is sets more inside has = record {
  count = ap length sets ∙ length-append old.sets (set ∷ []) ∙ omega (arith, is.count)
      ∙ sym (length-append old.covers.items (covers ∷ [])) ∙ sym (ap length more);
  held = λ place other at.
      elim (old_or_pushed old.sets set other place (subst (λ (xs : List ℕ). slice_get xs place ≡ Some other) sets at)) [
        | inl was ↦ is.held place other was
        | inr here ↦ subst (λ n. IsSet b.sets n) here.1 inside
      ];
  each = λ place other found at there.
      let first = old_or_pushed old.sets set other place
      (subst (λ (xs : List ℕ). slice_get xs place ≡ Some other) sets at) in
      let second = old_or_pushed old.covers.items covers found place
      (subst (λ (xs : List (Vec Edge Global)). slice_get xs place ≡ Some found) more there) in
      elim first [
        | inl was ↦ elim second [
          | inl known ↦ is.each place other found was known
          | inr last ↦ absurd (omega (arith, last.0, is.count, slice_get_within old.sets place other was))
        ]
        | inr here ↦ elim second [
          | inl known ↦ absurd (omega (arith, here.0, is.count, slice_get_within old.covers.items place found known))
          | inr last ↦ subst (λ n. HasCovers b (formulas_in b n) found.items) here.1
              (subst (λ (v : Vec Edge Global). HasCovers b (formulas_in b set) v.items) last.1 has)
        ]
      ];
}

-- a call that fails
pub fails_known : {X E : Type 0} (Q : E → Type 0) {a b : Board} {known : Known} (r : Result X E) {P : X → Type 0} →
    Grows a b → AreKnown b known → IsErrAnd r Q → GivesKnown a b known r P
fails_known Q (Ok x) grows is err = absurd err
fails_known Q (Err e) grows is err = record { grows = grows; known = is; made = tt }

-- ## Places

pub found_at : (eq : ℕ → ℕ → Bool) → ((x y : ℕ) → eq x y ≡ true → x ≡ y) → (sets : List ℕ) (set place : ℕ) →
    place < length sets → ((d : ℕ) → eq (get_or sets place d) set ≡ true) → slice_get sets place ≡ Some set
found_at eq same sets set place within equal =
    slice_get-get_or sets place set within ∙ ap Some (same (get_or sets place set) set (equal set))

pub placed_at : (eq : ℕ → ℕ → Bool) → ((x y : ℕ) → eq x y ≡ true → x ≡ y) → (old new : List ℕ) (set place : ℕ) →
    IsPlacedKey eq old new set place → slice_get new place ≡ Some set
placed_at eq same old new set place placed = elim placed [
  | inl known ↦ rw known.0 (found_at eq same old set place known.1 known.2)
  | inr fresh ↦ rw (fresh.0, fresh.1) (get_pushed old set)
]

-- the rest of a list from a place, by its element there
pub drop_one : (xs : List ℕ) (place x : ℕ) → place < length xs → x ≡ get_or xs place x →
    drop place xs ≡ x ∷ drop (place + 1) xs
drop_one xs place x within is =
    let split : drop place xs ≡ get_or xs place x ∷ drop (place + 1) xs = rw (add-one, drop-cons xs place x) refl in
    subst (λ k. drop place xs ≡ k ∷ drop (place + 1) xs) (sym is) split
