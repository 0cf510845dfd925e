-- How the index of the first entry that passes a test changes when an entry is appended.
-- - `pushed_position`: after an entry is appended, the first entry that passes the test is the same as before, or it is
--   the new entry
use Rattle.std.proofs.Common.{◌≡◌, ℕ, ◌+◌, ◌≤◌, Bool, true, cond, eqb, List, [], ◌∷◌, ◌++◌, length}
use Rattle.std.proofs.Common.{None, Some, arith, length-append, rules}
use Rattle.std.specs.List.{position, position_or_len}
use Rattle.std.specs.Prelude.{nat_lt, Option}
use Rattle.std.proofs.lemmas.List.Folds.{position_or_len_push}

place_within : {X : Type 0} (p : X → Bool) (xs : List X) → position_or_len p xs ≤ length xs
place_within p [] = omega arith
place_within p (x ∷ xs) = grind (arith, place_within p xs)

abbrev place : ℕ → ℕ → Option ℕ
place at len = cond (nat_lt at len) (Some at) None

behind : (at len next : ℕ) (b : Bool) → at ≤ len → next ≡ cond (eqb at len) (len + cond b 0 1) at →
    (b ≡ true → place at len ≡ None) → cond b (Some len) (place at len) ≡ place next (len + 1)
behind at len next b h k m = search rules

pub pushed_position : {X : Type 0} (p : X → Bool) (xs : List X) (x : X) → (p x ≡ true → position p xs ≡ None) →
    cond (p x) (Some (length xs)) (position p xs) ≡ position p (xs ++ x ∷ [])
pushed_position p xs x h = grind (arith, behind, place_within, position_or_len_push, length-append)
