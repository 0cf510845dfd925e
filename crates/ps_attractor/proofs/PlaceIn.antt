-- The first index of a number in a list.
use Rattle.std.proofs.Common.{◌≡◌, ℕ, zero, suc, ◌+◌, ◌<◌, ◌≤◌, List, [], ◌∷◌, Bool, cond, eqb, length}
use Rattle.std.proofs.Common.{get_or, refl, arith}
use Rattle.std.proofs.lemmas.Bool.{eqb-true, eq-eqb, false≢true}
use Rattle.ps_attractor.specs.Tables.{place_in}

-- the first index is at most every index at which the number occurs
pub place_in-le : (xs : List ℕ) (v i : ℕ) → i < length xs → get_or xs i 0 ≡ v → place_in xs v ≤ i
place_in-le [] v i within is = absurd (omega arith)
place_in-le (x ∷ xs) v zero within is = rw (eq-eqb x v is) (omega arith)
place_in-le (x ∷ xs) v (suc i) within is = grind (arith, place_in-le xs v i (omega arith) is)

-- the first index of a number that occurs in the list is an index of this number
pub place_in-at : (xs : List ℕ) (v i : ℕ) → i < length xs → get_or xs i 0 ≡ v → get_or xs (place_in xs v) 0 ≡ v
place_in-at [] v i within is = absurd (omega arith)
place_in-at (x ∷ xs) v i within is = by_test (λ i within is. place_in-at xs v i within is) (eqb x v) refl i within is
  where
    by_test : ((i : ℕ) → i < length xs → get_or xs i 0 ≡ v → get_or xs (place_in xs v) 0 ≡ v) → (b : Bool) → eqb x v ≡ b
        → (i : ℕ) → i < length (x ∷ xs) → get_or (x ∷ xs) i 0 ≡ v → get_or (x ∷ xs) (cond b 0 (place_in xs v + 1)) 0 ≡ v
    by_test behind b same i within is = grind (arith, eqb-true, false≢true, eq-eqb)
