-- The first entries of a list, and one more.
use Rattle.std.specs.Prelude.{◌≡◌, ℕ, zero, suc, ◌+◌, ◌<◌, List, [], ◌∷◌, ◌++◌, length}
use Rattle.std.proofs.Common.{ap, refl, arith, add-one, get_or, take}

take_after : {X : Type 0} (n : ℕ) (xs : List X) (d : X) → n < length xs →
    take (suc n) xs ≡ take n xs ++ get_or xs n d ∷ []
take_after n [] d within = absurd (omega (arith, within))
take_after zero (y ∷ xs) d within = refl
take_after (suc n) (y ∷ xs) d within = ap (λ ys. y ∷ ys) (take_after n xs d (omega (arith, within)))

pub take_next : {X : Type 0} (n : ℕ) (xs : List X) (d : X) → n < length xs →
    take (n + 1) xs ≡ take n xs ++ get_or xs n d ∷ []
take_next n xs d within = rw add-one (take_after n xs d within)
