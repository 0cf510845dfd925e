-- Lemmas on `slice_get`.
use Rattle.std.proofs.Common.{◌≡◌, ◌≢◌, ℕ, ◌+◌, ◌-◌, ◌<◌, ◌⊎◌, inl, inr, List, [], ◌∷◌, ◌++◌, length, take, drop, refl}
use Rattle.std.proofs.Common.{ap, arith, Some, slice_get, set, suc, zero, zero-add, suc-add, rules}
use Rattle.std.proofs.lemmas.Option.{slice_get_within}
use Rattle.std.proofs.lemmas.Bool.{cases_eq}
use Rattle.std.proofs.lemmas.List.{length-take-le}

-- an entry of a list keeps its index when another list is appended
pub slice_get-append_left : {X : Type 0} (list more : List X) (place : ℕ) (entry : X) →
    slice_get list place ≡ Some entry → slice_get (list ++ more) place ≡ Some entry
slice_get-append_left [] ys i x h = cc
slice_get-append_left (y ∷ xs) ys zero x h = h
slice_get-append_left (y ∷ xs) ys (suc i) x h = slice_get-append_left xs ys i x h

-- an entry that is appended to a list is at the index that was the list's length
pub slice_get-push : {X : Type 0} (list : List X) (pushed : X) →
    slice_get (list ++ pushed ∷ []) (length list) ≡ Some pushed
slice_get-push [] x = refl
slice_get-push (y ∷ xs) x = slice_get-push xs x

-- an entry of a list to which one entry was appended is an old entry, or the new one at the end
pub slice_get-push_cases : {X : Type 0} (list : List X) (pushed : X) (place : ℕ) (entry : X) →
    slice_get (list ++ pushed ∷ []) place ≡ Some entry → (slice_get list place ≡ Some entry) ⊎ ((place ≡ length list) ×
    (pushed ≡ entry))
slice_get-push_cases [] y zero x h = inr (refl, cc)
slice_get-push_cases [] y (suc i) x h = cc
slice_get-push_cases (z ∷ xs) y zero x h = inl h
slice_get-push_cases (z ∷ xs) y (suc i) x h = grind (arith, slice_get-push_cases xs y i x h)

pub slice_get-set_same : {X : Type 0} (xs : List X) (i : ℕ) (y : X) → i < length xs → slice_get (set xs i y) i ≡ Some y
slice_get-set_same [] i y h = absurd (omega arith)
slice_get-set_same (x ∷ xs) zero y h = refl
slice_get-set_same (x ∷ xs) (suc i) y h = slice_get-set_same xs i y (omega arith)

pub slice_get-set_other : {X : Type 0} (xs : List X) (i j : ℕ) (y : X) → j ≢ i →
    slice_get (set xs i y) j ≡ slice_get xs j
slice_get-set_other [] i j y h = refl
slice_get-set_other (x ∷ xs) zero zero y h = absurd (h refl)
slice_get-set_other (x ∷ xs) zero (suc j) y h = refl
slice_get-set_other (x ∷ xs) (suc i) zero y h = refl
slice_get-set_other (x ∷ xs) (suc i) (suc j) y h = slice_get-set_other xs i j y (λ e. h (ap suc e))

-- after a write to a list, the new item is at the written index, and the entries at other indices are unchanged
pub slice_get-set_cases : {X : Type 0} (list : List X) (place wanted : ℕ) (item : X) →
    ((wanted ≡ place) × (place < length list → slice_get (set list place item) wanted ≡ Some item)) ⊎
    ((wanted ≢ place) × (slice_get (set list place item) wanted ≡ slice_get list wanted))
slice_get-set_cases xs i j y = search (rules, cases_eq, slice_get-set_same, slice_get-set_other)

pub slice_get-take_back : {X : Type 0} (n : ℕ) (xs : List X) (i : ℕ) (x : X) → slice_get (take n xs) i ≡ Some x →
    slice_get xs i ≡ Some x
slice_get-take_back zero xs i x h = cc
slice_get-take_back (suc n) [] i x h = cc
slice_get-take_back (suc n) (y ∷ xs) zero x h = h
slice_get-take_back (suc n) (y ∷ xs) (suc i) x h = slice_get-take_back n xs i x h

pub slice_get-take : {X : Type 0} (n : ℕ) (xs : List X) (i : ℕ) → i < n → slice_get (take n xs) i ≡ slice_get xs i
slice_get-take zero xs i h = absurd (omega arith)
slice_get-take (suc n) [] i h = refl
slice_get-take (suc n) (y ∷ xs) zero h = refl
slice_get-take (suc n) (y ∷ xs) (suc i) h = slice_get-take n xs i (omega arith)

pub slice_get-drop : {X : Type 0} (n : ℕ) (xs : List X) (i : ℕ) → slice_get (drop n xs) i ≡ slice_get xs (n + i)
slice_get-drop zero xs i = rw zero-add
slice_get-drop (suc n) [] i = refl
slice_get-drop (suc n) (x ∷ xs) i = rw (suc-add n i) (slice_get-drop n xs i)

last_split_at : {X : Type 0} (xs : List X) (x : X) (n : ℕ) → length xs ≡ suc n → slice_get xs n ≡ Some x →
    xs ≡ take n xs ++ x ∷ []
last_split_at [] x n e h = cc
last_split_at (y ∷ []) x zero e h = let same : y ≡ x = cc in ap (λ z. z ∷ []) same
last_split_at (y ∷ z ∷ ys) x zero e h = absurd (omega arith)
last_split_at (y ∷ ys) x (suc n) e h = ap (λ zs. y ∷ zs) (last_split_at ys x n (omega arith) h)

pub last_split : {X : Type 0} (xs : List X) {x : X} → slice_get xs (length xs - 1) ≡ Some x →
    xs ≡ take (length xs - 1) xs ++ x ∷ []
last_split xs {x} h = last_split_at xs x (length xs - 1) (omega (arith, slice_get_within xs _ x h)) h

pub length-but_last : {X : Type 0} (xs : List X) {x : X} → slice_get xs (length xs - 1) ≡ Some x →
    length (take (length xs - 1) xs) + 1 ≡ length xs
length-but_last xs h = omega (arith, slice_get_within xs _ _ h, length-take-le (length xs - 1) xs (omega arith))

-- each entry of a list is the last entry, or an entry of the list without the last one
pub slice_get-but_last : {X : Type 0} (xs : List X) {x : X} → slice_get xs (length xs - 1) ≡ Some x → (i : ℕ) (y : X) →
    slice_get xs i ≡ Some y → (slice_get (take (length xs - 1) xs) i ≡ Some y) ⊎ (x ≡ y)
slice_get-but_last xs {x} last i y h =
    grind (arith, slice_get-push_cases (take (length xs - 1) xs) x i y (rw (last_split xs last) at h))

-- each entry of two concatenated lists is an entry of the first list or of the second list
pub slice_get-append_cases : {X : Type 0} (xs ys : List X) (i : ℕ) (x : X) → slice_get (xs ++ ys) i ≡ Some x →
    (slice_get xs i ≡ Some x) ⊎ ((j : ℕ) × (i ≡ length xs + j) × (slice_get ys j ≡ Some x))
slice_get-append_cases [] ys i x h = inr (i, omega arith, h)
slice_get-append_cases (y ∷ xs) ys zero x h = inl h
slice_get-append_cases (y ∷ xs) ys (suc i) x h = grind (arith, slice_get-append_cases xs ys i x h)

pub slice_get-append_right : {X : Type 0} (xs ys : List X) (j : ℕ) (x : X) → slice_get ys j ≡ Some x →
    slice_get (xs ++ ys) (length xs + j) ≡ Some x
slice_get-append_right [] ys j x h = rw zero-add h
slice_get-append_right (y ∷ xs) ys j x h = rw (suc-add (length xs) j) (slice_get-append_right xs ys j x h)
