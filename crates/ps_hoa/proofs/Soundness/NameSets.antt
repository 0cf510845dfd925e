-- Lemmas about the disjunction of two tests, numbers in a list, and the bytes between quotes.
-- - `or_cond`: `b || r` is true if b is true, and otherwise equals r
-- - `among`: the code's test of whether a number is in a list
-- - `inside-range`: a text without its first and its last byte, as a slice of the text
use Rattle.std.proofs.Common.{◌≡◌, ℕ, suc, ◌-◌, ◌||◌, Bool, true, cond, List, [], ◌∷◌, length, take, refl, ap, ◌∙◌, eqb}
use Rattle.std.proofs.Common.{arith, rules}
use Rattle.std.specs.List.{list_any, slice_range}
use Rattle.std.proofs.lemmas.Bool.Decides.{nat_tests}
use Rattle.ps_hoa.specs.Files.{is_among}
use Rattle.ps_hoa.specs.Grammar.Header.{without_last}
use Rattle.ps_hoa.specs.Inner.Signs.{inside}

pub or_cond : (b r : Bool) → (b || r) ≡ cond b true r
or_cond b r = search rules

swapped : (n m : ℕ) → eqb m n ≡ eqb n m
swapped n m = grind (arith, nat_tests)

pub among : (n : ℕ) (ms : List ℕ) → list_any (λ m. eqb m n) ms ≡ is_among n ms
among n [] = refl
among n (m ∷ ms) = rw (swapped n m, among n ms) (or_cond (eqb n m) (is_among n ms))

take-without_last : (xs : List ℕ) → take (length xs - 1) xs ≡ without_last xs
take-without_last [] = refl
take-without_last (b ∷ []) = refl
take-without_last (b ∷ c ∷ bs) = let e : length (b ∷ c ∷ bs) - 1 ≡ suc (length (c ∷ bs) - 1) = omega arith in
    ap (λ n. take n (b ∷ c ∷ bs)) e ∙ ap (λ xs. b ∷ xs) (take-without_last (c ∷ bs))

pub inside-range : (text : List ℕ) → slice_range text 1 (length text - 1) ≡ inside text
inside-range [] = refl
inside-range (b ∷ bs) = grind (arith, take-without_last bs)
