-- Unions of sets as joins of covers.
use Rattle.std.proofs.Common.{◌≡◌, ◌↔◌, ◌⊎◌, ◌&&◌, ℕ, List, [], ◌∷◌, Option, Some, None, inl, inr, map}
use Rattle.std.proofs.Common.{refl, subst}
use Rattle.std.specs.List.{Contains}
use Rattle.std.specs.Prelude.{IsTrue, is_some}
use Rattle.ps_diagram.specs.Leaves.{chosen}
use Rattle.ps_formula.specs.NormalForms.{NormalFormula, normal_formula_at}
use Rattle.ps_tableau.proofs.Members.{first_in, in_more, in_none, later_in}
use Rattle.ps_tableau.specs.Boards.{IsSetOf, formulas_in}
use Rattle.ps_tableau.specs.Inner.SetSteps.{IsUnion}
use Rattle.ps_tableau.specs.Sets.{KeepsSets, IsSet, indices_in}
use Rattle.ps_tableau.specs.declared.board.Board.{Board}

-- ## Elements of mapped lists

pub in_map : {X Y : Type 0} (f : X → Y) (xs : List X) (x : X) → Contains xs x → Contains (map f xs) (f x)
in_map f [] x h = in_none x h
in_map {X} {Y} f (z ∷ xs) x h = elim (in_more z xs x h) [
  | inl here ↦ subst (λ (y : X). Contains (f z ∷ map f xs) (f y)) here (first_in (f z) (map f xs))
  | inr rest ↦ later_in (f z) (map f xs) (f x) (in_map f xs x rest)
]

pub from_map : {X Y : Type 0} (f : X → Y) (xs : List X) (y : Y) → Contains (map f xs) y →
    (x : X) × Contains xs x × (f x ≡ y)
from_map f [] y h = in_none y h
from_map f (z ∷ xs) y h = elim (in_more (f z) (map f xs) y h) [
  | inl here ↦ (z, first_in z xs, here)
  | inr rest ↦ let r = from_map f xs y rest in (r.0, later_in z xs r.0 r.1, r.2)
]

pub map_union : {X Y : Type 0} (f : X → Y) (xs ys zs : List X) →
    ((x : X) → Contains zs x ↔ (Contains xs x ⊎ Contains ys x)) → (y : Y) →
    Contains (map f zs) y ↔ (Contains (map f xs) y ⊎ Contains (map f ys) y)
map_union {X} {Y} f xs ys zs both y = (
  λ there.
      let x = from_map f zs y there in
      elim ((both x.0).0 x.1) [
        | inl l ↦ inl (subst (λ (v : Y). Contains (map f xs) v) x.2 (in_map f xs x.0 l))
        | inr r ↦ inr (subst (λ (v : Y). Contains (map f ys) v) x.2 (in_map f ys x.0 r))
      ],
  λ cases. elim cases [
    | inl l ↦
        let x = from_map f xs y l in
        subst (λ (v : Y). Contains (map f zs) v) x.2 (in_map f zs x.0 ((both x.0).1 (inl x.1)))
    | inr r ↦
        let x = from_map f ys y r in
        subst (λ (v : Y). Contains (map f zs) v) x.2 (in_map f zs x.0 ((both x.0).1 (inr x.1)))
  ],
)

pub map_within : {X Y : Type 0} (f : X → Y) (xs ys : List X) → ((x : X) → Contains xs x → Contains ys x) → (y : Y) →
    Contains (map f xs) y → Contains (map f ys) y
map_within {X} {Y} f xs ys within y there =
    let x = from_map f xs y there in
    subst (λ (v : Y). Contains (map f ys) v) x.2 (in_map f ys x.0 (within x.0 x.1))

-- ## Unions in a table that grows

pub union_later : {old mid new : List (ℕ × ℕ)} {a b set : ℕ} → IsUnion old a b mid set → KeepsSets mid new →
    IsUnion old a b new set
union_later {old} {mid} {new} {a} {b} {set} union extends = record {
  held = extends.held set union.held;
  each = λ k. rw (extends.same set union.held) (union.each k);
}

pub union_earlier : {old mid new : List (ℕ × ℕ)} {a b set : ℕ} → KeepsSets old mid → IsSet old a → IsSet old b →
    IsUnion mid a b new set → IsUnion old a b new set
union_earlier {old} {mid} {new} {a} {b} {set} extends first second union = record {
  held = union.held;
  each = λ k. rw (← extends.same a first, ← extends.same b second) (union.each k);
}

pub union_all : {P : ℕ → Type 0} {old new : List (ℕ × ℕ)} {a b set : ℕ} → IsUnion old a b new set →
    ((k : ℕ) → Contains (indices_in old a) k → P k) → ((k : ℕ) → Contains (indices_in old b) k → P k) → (k : ℕ) →
    Contains (indices_in new set) k → P k
union_all union first second k there = elim ((union.each k).0 there) [ inl l ↦ first k l | inr r ↦ second k r ]

-- the union of two sets of a board that grows
pub set_union : {P Q : ℕ → Type 0} {old new : Board} {a b set : ℕ} → IsUnion old.sets a b new.sets set →
    ((k : ℕ) → P k → Q k) → IsSetOf P old a → IsSetOf P old b → IsSetOf Q new set
set_union union more first second = record {
  held = union.held;
  each = λ k there. more k (union_all union first.each second.each k there);
}

pub formulas_union : (old new : Board) {a b set : ℕ} → new.formulas ≡ old.formulas →
    IsUnion old.sets a b new.sets set → (f : NormalFormula) →
    Contains (formulas_in new set) f ↔ (Contains (formulas_in old a) f ⊎ Contains (formulas_in old b) f)
formulas_union old new {a} {b} {set} same union f =
    rw same (map_union (normal_formula_at old.formulas) _ _ (indices_in new.sets set) union.each f)

-- ## Guards

pub some_both : (x y : Option ℕ) → is_some (chosen x y None) ≡ (is_some x && is_some y)
some_both None y = refl
some_both (Some x) y = refl

pub none_both : (x y : Option ℕ) → chosen x y None ≡ None → IsTrue (is_some x) → IsTrue (is_some y) → ⊥
none_both None y none first second = cc
none_both (Some x) y none first second = cc
