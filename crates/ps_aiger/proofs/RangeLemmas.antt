-- The literals of consecutive variables.
use Rattle.std.proofs.Common.{◌≡◌, ◌∙◌, ℕ, zero, suc, ◌+◌, ◌*◌, ◌<◌, List, ◌∷◌, ◌++◌, map, length, get_or, refl, ap}
use Rattle.std.proofs.Common.{arith}
use Rattle.std.specs.List.{range_with_len}
use Rattle.std.proofs.lemmas.List.FromFn.{length-map-range_with_len, get_or-map-range_with_len}

-- the literals of `count` variables from variable `from` on
abbrev pub even_literals : ℕ → ℕ → List ℕ
even_literals from count = map (λ v. 2 * v) (range_with_len from count)

pub even-append : (a n k : ℕ) → even_literals a (n + k) ≡ even_literals a n ++ even_literals (a + n) k
even-append a zero k = grind arith
even-append a (suc n) k = ap (even_literals a) (let e : suc n + k ≡ suc (n + k) = omega arith in e) ∙ ap (λ xs. (2 * a)
    ∷ xs) (even-append (a + 1) n k ∙ ap (λ x. even_literals (a + 1) n ++ even_literals x k) (grind arith))

pub length-even : (a n : ℕ) → length (even_literals a n) ≡ n
length-even a n = length-map-range_with_len (λ v. 2 * v) a n

pub even-at : (a n k d : ℕ) → k < n → get_or (even_literals a n) k d ≡ 2 * (a + k)
even-at a n k d lt = get_or-map-range_with_len (λ v. 2 * v) a n k (a + k) d lt refl
