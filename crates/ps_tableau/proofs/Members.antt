-- Elements of lists.
use Rattle.std.proofs.Common.{◌≡◌, ◌<◌, ◌⊎◌, ℕ, inl, inr, List, [], ◌∷◌, arith, get_or, length, reverse, subst, sym}
use Rattle.std.proofs.lemmas.Grind.{reverse_onto}
use Rattle.std.proofs.lemmas.List.{reverse-reverse}
use Rattle.std.proofs.lemmas.List.Elements.{Contains-append_cases, Contains-append_left, Contains-append_right}
use Rattle.std.proofs.lemmas.List.Elements.{Contains-get_or, Contains-push}
use Rattle.std.proofs.lemmas.List.Elements.{Contains-push_cases}
use Rattle.std.specs.List.{Contains}

pub in_none : {X C : Type 0} (x : X) → Contains [] x → C
in_none x h = absurd (omega (arith, h.1))

pub in_one : {X : Type 0} (x y : X) → Contains (x ∷ []) y → x ≡ y
in_one x y h = elim (Contains-push_cases [] x y h) [ inl none ↦ in_none y none | inr e ↦ e ]

pub in_more : {X : Type 0} (x : X) (xs : List X) (y : X) → Contains (x ∷ xs) y → (x ≡ y) ⊎ Contains xs y
in_more x xs y h = elim (Contains-append_cases (x ∷ []) xs y h) [ inl one ↦ inl (in_one x y one) | inr rest ↦ inr rest ]

pub first_in : {X : Type 0} (x : X) (xs : List X) → Contains (x ∷ xs) x
first_in x xs = Contains-append_left (x ∷ []) xs x (Contains-push [] x)

pub later_in : {X : Type 0} (x : X) (xs : List X) (y : X) → Contains xs y → Contains (x ∷ xs) y
later_in x xs y h = Contains-append_right (x ∷ []) xs y h

pub item_in : {X : Type 0} (xs : List X) (i : ℕ) (x : X) → i < length xs → x ≡ get_or xs i x → Contains xs x
item_in {X} xs i x within is = subst (λ (y : X). Contains xs y) (sym is) (Contains-get_or xs i x within)

pub from_reverse : {X : Type 0} (xs : List X) (x : X) → Contains (reverse xs) x → Contains xs x
from_reverse [] x h = in_none x h
from_reverse {X} (y ∷ ys) x h =
    let h2 = subst (λ (zs : List X). Contains zs x) (reverse_onto ys y []) h in
    elim (Contains-append_cases (reverse ys) (y ∷ []) x h2) [
      | inl rest ↦ later_in y ys x (from_reverse ys x rest)
      | inr one ↦ subst (λ (z : X). Contains (y ∷ ys) z) (in_one y x one) (first_in y ys)
    ]

pub in_reverse : {X : Type 0} (xs : List X) (x : X) → Contains xs x → Contains (reverse xs) x
in_reverse {X} xs x h =
    from_reverse (reverse xs) x (subst (λ (zs : List X). Contains zs x) (sym (reverse-reverse xs)) h)
