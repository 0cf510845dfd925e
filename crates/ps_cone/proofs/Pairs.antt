-- Elements of joined, mapped and filtered lists, by their places; and relations between all pairs of elements.
use Rattle.std.proofs.Common.{◌≡◌, ◌⊎◌, ℕ, zero, suc, ◌+◌, ◌<◌, Bool, true, false, cond, List, [], ◌∷◌, ◌++◌, Some}
use Rattle.std.proofs.Common.{All, AllPairs, length, map, get_or, refl, ap, sym, ◌∙◌, arith, inl, inr, subst}
use Rattle.std.specs.List.{Contains, filter, slice_get}
use Rattle.std.specs.Option.{option_map}
use Rattle.std.proofs.lemmas.Option.{get_or_from_slice_get, slice_get-get_or, slice_get-map, slice_get_within}
use Rattle.ps_cone.proofs.SourceLemmas.{some_same}

-- ## Places

pub at_left : {X : Type 0} (xs ys : List X) (i : ℕ) (x : X) → slice_get xs i ≡ Some x → slice_get (xs ++ ys) i ≡ Some x
at_left [] ys i x at = absurd (cc)
at_left (z ∷ xs) ys zero x at = at
at_left (z ∷ xs) ys (suc i) x at = at_left xs ys i x at

pub at_right : {X : Type 0} (xs ys : List X) (i : ℕ) → slice_get (xs ++ ys) (length xs + i) ≡ slice_get ys i
at_right [] ys i = ap (slice_get ys) (omega arith)
at_right (x ∷ xs) ys i =
    let e : length (x ∷ xs) + i ≡ suc (length xs + i) = omega arith in
    ap (slice_get (x ∷ xs ++ ys)) e ∙ at_right xs ys i

pub at_either : {X : Type 0} (xs ys : List X) (k : ℕ) (x : X) → slice_get (xs ++ ys) k ≡ Some x →
    (slice_get xs k ≡ Some x) ⊎ ((i : ℕ) × (k ≡ length xs + i) × (slice_get ys i ≡ Some x))
at_either [] ys k x at = inr (k, omega arith, at)
at_either (z ∷ xs) ys zero x at = inl at
at_either (z ∷ xs) ys (suc k) x at = elim (at_either xs ys k x at) [
  | inl left ↦ inl left
  | inr right ↦ inr (right.0, omega (arith, right.1), right.2)
]

pub map_at : {X Y : Type 0} (f : X → Y) (xs : List X) (k : ℕ) (x : X) → slice_get xs k ≡ Some x →
    slice_get (map f xs) k ≡ Some (f x)
map_at f xs k x at = slice_get-map f xs k ∙ ap (option_map f) at

pub map_from : {X Y : Type 0} (f : X → Y) (xs : List X) (k : ℕ) (y : Y) → slice_get (map f xs) k ≡ Some y →
    (x : X) × (slice_get xs k ≡ Some x) × (f x ≡ y)
map_from f [] k y at = absurd (cc)
map_from f (x ∷ xs) zero y at = (x, refl, some_same (f x) y at)
map_from f (x ∷ xs) (suc k) y at = map_from f xs k y at

kept_from : {X : Type 0} (b : Bool) (x : X) (xs : List X) (k : ℕ) (y : X) →
    slice_get (cond b (x ∷ xs) xs) k ≡ Some y → ((x ≡ y) × (b ≡ true)) ⊎ ((i : ℕ) × (slice_get xs i ≡ Some y))
kept_from true x xs zero y at = inl (some_same x y at, refl)
kept_from true x xs (suc k) y at = inr (k, at)
kept_from false x xs k y at = inr (k, at)

pub filter_from : {X : Type 0} (p : X → Bool) (xs : List X) (k : ℕ) (x : X) → slice_get (filter p xs) k ≡ Some x →
    (i : ℕ) × (slice_get xs i ≡ Some x) × (p x ≡ true)
filter_from p [] k x at = absurd (cc)
filter_from p (y ∷ ys) k x at = elim (kept_from (p y) y (filter p ys) k x at) [
  | inl here ↦ (0, ap (λ z. Some z) here.0, ap p (sym here.0) ∙ here.1)
  | inr later ↦ let r = filter_from p ys later.0 x later.1 in (suc r.0, r.1, r.2)
]

kept_here : {X : Type 0} (b : Bool) (x : X) (xs : List X) → b ≡ true →
    (k : ℕ) × (slice_get (cond b (x ∷ xs) xs) k ≡ Some x)
kept_here true x xs e = (0, refl)
kept_here false x xs e = absurd (cc)

kept_behind : {X : Type 0} (b : Bool) (x : X) (xs : List X) (k : ℕ) (y : X) → slice_get xs k ≡ Some y →
    (j : ℕ) × (slice_get (cond b (x ∷ xs) xs) j ≡ Some y)
kept_behind true x xs k y at = (suc k, at)
kept_behind false x xs k y at = (k, at)

pub filter_there : {X : Type 0} (p : X → Bool) (xs : List X) (i : ℕ) (x : X) → slice_get xs i ≡ Some x → p x ≡ true →
    (k : ℕ) × (slice_get (filter p xs) k ≡ Some x)
filter_there p [] i x at passes = absurd (cc)
filter_there p (y ∷ ys) zero x at passes =
    let same : y ≡ x = some_same y x at in
    let r = kept_here (p y) y (filter p ys) (ap p same ∙ passes) in
    (r.0, r.1 ∙ ap (λ z. Some z) same)
filter_there p (y ∷ ys) (suc i) x at passes =
    let r = filter_there p ys i x at passes in
    kept_behind (p y) y (filter p ys) r.0 x r.1

pub contains_at : {X : Type 0} (xs : List X) (k : ℕ) (x : X) → slice_get xs k ≡ Some x → Contains xs x
contains_at xs k x at = (k, slice_get_within xs k x at, get_or_from_slice_get xs k x x at)

-- ## All elements, and all pairs

pub all_by : {X : Type 0} (P : X → Type 0) (xs : List X) → ((k : ℕ) (x : X) → slice_get xs k ≡ Some x → P x) →
    All P xs
all_by P xs f = λ k d lt. f k (get_or xs k d) (slice_get-get_or xs k d lt)

pub all_at : {X : Type 0} (P : X → Type 0) (xs : List X) (k : ℕ) (x : X) → All P xs → slice_get xs k ≡ Some x → P x
all_at P xs k x all at =
    subst P (get_or_from_slice_get xs k x x at) (all k x (slice_get_within xs k x at))

pub pairs_by : {X : Type 0} (R : X → X → Type 0) (xs : List X) →
    ((i j : ℕ) (x y : X) → i < j → slice_get xs i ≡ Some x → slice_get xs j ≡ Some y → R x y) → AllPairs R xs
pairs_by R xs f = λ i j d less lt. f i j (get_or xs i d) (get_or xs j d) less
    (slice_get-get_or xs i d (omega (arith, less, lt))) (slice_get-get_or xs j d lt)

pub pairs_at : {X : Type 0} (R : X → X → Type 0) (xs : List X) (i j : ℕ) (x y : X) → AllPairs R xs → i < j →
    slice_get xs i ≡ Some x → slice_get xs j ≡ Some y → R x y
pairs_at R xs i j x y all less at_i at_j =
    subst (λ z. R z y) (get_or_from_slice_get xs i x x at_i)
    (subst (R (get_or xs i x)) (get_or_from_slice_get xs j y x at_j)
    (all i j x less (slice_get_within xs j y at_j)))

pub pairs_left : {X : Type 0} (R : X → X → Type 0) (xs ys : List X) → AllPairs R (xs ++ ys) → AllPairs R xs
pairs_left R xs ys all = pairs_by R xs (λ i j x y less at_i at_j.
    pairs_at R (xs ++ ys) i j x y all less (at_left xs ys i x at_i) (at_left xs ys j y at_j))

pub pairs_right : {X : Type 0} (R : X → X → Type 0) (xs ys : List X) → AllPairs R (xs ++ ys) → AllPairs R ys
pairs_right R xs ys all = pairs_by R ys (λ i j x y less at_i at_j.
    pairs_at R (xs ++ ys) (length xs + i) (length xs + j) x y all (omega (arith, less)) (at_right xs ys i ∙ at_i)
    (at_right xs ys j ∙ at_j))

pub pairs_across : {X : Type 0} (R : X → X → Type 0) (xs ys : List X) (i j : ℕ) (x y : X) → AllPairs R (xs ++ ys) →
    slice_get xs i ≡ Some x → slice_get ys j ≡ Some y → R x y
pairs_across R xs ys i j x y all at_i at_j =
    pairs_at R (xs ++ ys) i (length xs + j) x y all (omega (arith, slice_get_within xs i x at_i))
    (at_left xs ys i x at_i) (at_right xs ys j ∙ at_j)

pub pairs_join : {X : Type 0} (R : X → X → Type 0) (xs ys : List X) → AllPairs R xs → AllPairs R ys →
    ((i j : ℕ) (x y : X) → slice_get xs i ≡ Some x → slice_get ys j ≡ Some y → R x y) → AllPairs R (xs ++ ys)
pairs_join R xs ys left right across = pairs_by R (xs ++ ys) (λ i j x y less at_i at_j.
    elim (at_either xs ys i x at_i) [
      | inl li ↦ elim (at_either xs ys j y at_j) [
        | inl lj ↦ pairs_at R xs i j x y left less li lj
        | inr rj ↦ across i rj.0 x y li rj.2
      ]
      | inr ri ↦ elim (at_either xs ys j y at_j) [
        | inl lj ↦ absurd (omega (arith, less, ri.1, slice_get_within xs j y lj))
        | inr rj ↦ pairs_at R ys ri.0 rj.0 x y right (omega (arith, less, ri.1, rj.1)) ri.2 rj.2
      ]
    ])
