-- Lemmas about the elements of a list that flags keep.
use Rattle.std.proofs.Common.{◌≡◌, ◌<◌, ℕ, zero, suc, ◌+◌, Bool, true, false, List, [], ◌∷◌, ◌++◌, Some, All}
use Rattle.std.proofs.Common.{AllPairs, length, map, get_or, refl, ap, sym, ◌∙◌, arith, take, add-one}
use Rattle.std.specs.List.{slice_get}
use Rattle.std.proofs.Math.Seq.{take-nil}
use Rattle.std.proofs.lemmas.List.Elements.{All-cons, All-head, All-tail}
use Rattle.std.proofs.lemmas.List.Kept.{AllPairs-cons}
use Rattle.ps_cone.specs.Parts.{selected}

pub selected_none : {X : Type 0} (kept : List Bool) → selected {X = X} kept [] ≡ []
selected_none [] = refl
selected_none (b ∷ bs) = refl

-- one more element is kept
pub selected_kept : {X : Type 0} (kept : List Bool) (xs : List X) (i : ℕ) (x : X) → i < length kept →
    i < length xs → get_or kept i false ≡ true → x ≡ get_or xs i x →
    selected kept (take (i + 1) xs) ≡ selected kept (take i xs) ++ x ∷ []
selected_kept kept xs i x lk lt flag is = rw add-one (go kept xs i x lk lt flag is)
  where
    go : {X : Type 0} (kept : List Bool) (xs : List X) (i : ℕ) (x : X) → i < length kept → i < length xs →
        get_or kept i false ≡ true → x ≡ get_or xs i x →
        selected kept (take (suc i) xs) ≡ selected kept (take i xs) ++ x ∷ []
    go [] xs i x lk lt flag is = absurd (omega (arith, lk))
    go (b ∷ bs) [] i x lk lt flag is = absurd (omega (arith, lt))
    go (true ∷ bs) (y ∷ ys) zero x lk lt flag is = ap (λ l. y ∷ l) (selected_none bs) ∙ ap (λ z. z ∷ []) (sym is)
    go (false ∷ bs) (y ∷ ys) zero x lk lt flag is = absurd (cc)
    go (true ∷ bs) (y ∷ ys) (suc i) x lk lt flag is =
        ap (λ l. y ∷ l) (go bs ys i x (omega (arith, lk)) (omega (arith, lt)) flag is)
    go (false ∷ bs) (y ∷ ys) (suc i) x lk lt flag is = go bs ys i x (omega (arith, lk)) (omega (arith, lt)) flag is

-- one more element is left out
pub selected_lost : {X : Type 0} (kept : List Bool) (xs : List X) (i : ℕ) → get_or kept i false ≡ false →
    selected kept (take (i + 1) xs) ≡ selected kept (take i xs)
selected_lost kept xs i flag = rw add-one (go kept xs i flag)
  where
    go : {X : Type 0} (kept : List Bool) (xs : List X) (i : ℕ) → get_or kept i false ≡ false →
        selected kept (take (suc i) xs) ≡ selected kept (take i xs)
    go [] xs i flag = refl
    go (b ∷ bs) [] i flag = ap (selected (b ∷ bs)) (take-nil (suc i)
        ∙ sym (take-nil i))
    go (true ∷ bs) (y ∷ ys) zero flag = absurd (cc)
    go (false ∷ bs) (y ∷ ys) zero flag = selected_none bs
    go (true ∷ bs) (y ∷ ys) (suc i) flag = ap (λ l. y ∷ l) (go bs ys i flag)
    go (false ∷ bs) (y ∷ ys) (suc i) flag = go bs ys i flag

-- each kept element is one of the list, at a place with a flag
pub selected_from : {X : Type 0} (kept : List Bool) (xs : List X) (k : ℕ) (x : X) →
    slice_get (selected kept xs) k ≡ Some x →
    (i : ℕ) × (slice_get xs i ≡ Some x) × (slice_get kept i ≡ Some true)
selected_from [] xs k x at = absurd (cc)
selected_from (b ∷ bs) [] k x at = absurd (cc)
selected_from (true ∷ bs) (y ∷ ys) zero x at = (0, at, refl)
selected_from (true ∷ bs) (y ∷ ys) (suc k) x at =
    let r = selected_from bs ys k x at in (suc r.0, r.1, r.2)
selected_from (false ∷ bs) (y ∷ ys) k x at = let r = selected_from bs ys k x at in (suc r.0, r.1, r.2)

pub selected_there : {X : Type 0} (kept : List Bool) (xs : List X) (i : ℕ) (x : X) → slice_get xs i ≡ Some x →
    slice_get kept i ≡ Some true → (k : ℕ) × (slice_get (selected kept xs) k ≡ Some x)
selected_there [] xs i x at flag = absurd (cc)
selected_there (b ∷ bs) [] i x at flag = absurd (cc)
selected_there (true ∷ bs) (y ∷ ys) zero x at flag = (0, at)
selected_there (false ∷ bs) (y ∷ ys) zero x at flag = absurd (cc)
selected_there (true ∷ bs) (y ∷ ys) (suc i) x at flag =
    let r = selected_there bs ys i x at flag in (suc r.0, r.1)
selected_there (false ∷ bs) (y ∷ ys) (suc i) x at flag = selected_there bs ys i x at flag

pub All-selected : {X : Type 0} (P : X → Type 0) (kept : List Bool) (xs : List X) → All P xs →
    All P (selected kept xs)
All-selected P [] xs all = λ k d lt. absurd (omega (arith, lt))
All-selected P (b ∷ bs) [] all = λ k d lt. absurd (omega (arith, lt))
All-selected P (true ∷ bs) (y ∷ ys) all =
    All-cons P y (selected bs ys) (All-head P y ys all)
    (All-selected P bs ys (All-tail P y ys all))
All-selected P (false ∷ bs) (y ∷ ys) all = All-selected P bs ys (All-tail P y ys all)

pub AllPairs-selected : {X : Type 0} (R : X → X → Type 0) (kept : List Bool) (xs : List X) → AllPairs R xs →
    AllPairs R (selected kept xs)
AllPairs-selected R [] xs all = λ i j d less lt. absurd (omega (arith, lt))
AllPairs-selected R (b ∷ bs) [] all = λ i j d less lt. absurd (omega (arith, lt))
AllPairs-selected R (true ∷ bs) (y ∷ ys) all =
    AllPairs-cons R y (selected bs ys) (All-selected (R y) bs ys
    (λ k d lt. all 0 (suc k) d (omega arith) (omega (arith, lt))))
    (AllPairs-selected R bs ys (λ i j d less lt. all (suc i) (suc j) d (omega (arith, less)) (omega (arith, lt))))
AllPairs-selected R (false ∷ bs) (y ∷ ys) all =
    AllPairs-selected R bs ys (λ i j d less lt. all (suc i) (suc j) d (omega (arith, less)) (omega (arith, lt)))

-- flags past the end of the list do not matter
pub selected-take : {X : Type 0} (kept : List Bool) (xs : List X) → selected (take (length xs) kept) xs ≡
    selected kept xs
selected-take [] [] = refl
selected-take (b ∷ bs) [] = refl
selected-take [] (y ∷ ys) = refl
selected-take (true ∷ bs) (y ∷ ys) = ap (λ l. y ∷ l) (selected-take bs ys)
selected-take (false ∷ bs) (y ∷ ys) = selected-take bs ys

pub map-selected : {X Y : Type 0} (f : X → Y) (kept : List Bool) (xs : List X) →
    map f (selected kept xs) ≡ selected kept (map f xs)
map-selected f [] xs = refl
map-selected f (b ∷ bs) [] = refl
map-selected f (true ∷ bs) (x ∷ xs) = ap (λ l. f x ∷ l) (map-selected f bs xs)
map-selected f (false ∷ bs) (x ∷ xs) = map-selected f bs xs

-- of two lists of one length, as many elements are kept
pub length-selected : {X Y : Type 0} (kept : List Bool) (xs : List X) (ys : List Y) → length xs ≡ length ys →
    length (selected kept xs) ≡ length (selected kept ys)
length-selected [] xs ys e = refl
length-selected (b ∷ bs) [] [] e = refl
length-selected (b ∷ bs) [] (y ∷ ys) e = absurd (omega (arith, e))
length-selected (b ∷ bs) (x ∷ xs) [] e = absurd (omega (arith, e))
length-selected (true ∷ bs) (x ∷ xs) (y ∷ ys) e = ap suc (length-selected bs xs ys (omega (arith, e)))
length-selected (false ∷ bs) (x ∷ xs) (y ∷ ys) e = length-selected bs xs ys (omega (arith, e))
