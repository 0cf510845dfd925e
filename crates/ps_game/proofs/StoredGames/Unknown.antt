-- The search of an unfinished game for an unknown successor, which is a number that is not a vertex.
use Rattle.std.proofs.Common.{inl, inr, ◌≤◌, ◌≡◌, ℕ, zero, suc, ◌<◌, List, [], ◌∷◌, find, Option, None, rules}
use Rattle.std.proofs.Common.{Some, nat_le, cond, arith}
use Rattle.std.specs.List.{All}
use Rattle.std.proofs.lemmas.Bool.{cases_lt}
use Rattle.std.proofs.lemmas.Bool.Decides.{nat_tests}
use Rattle.ps_game.specs.Games.{ParityGame}
use Rattle.ps_game.specs.Drafts.{IsFirstUnknown, NoneUnknown}

-- if a list has no number that is at least n, its head is less than n, and its tail has no number that is at least n
-- either
parts : (n x : ℕ) (found : Option ℕ) → cond (nat_le n x) (Some x) found ≡ None → (x < n) × (found ≡ None)
parts n x found none = grind (arith, nat_tests)

-- if w is the first number of a list that is at least n, and the list's head is less than n, w is also the first such
-- number of the tail
behind : (n x w : ℕ) (found : Option ℕ) → cond (nat_le n x) (Some x) found ≡ Some w → x < n → found ≡ Some w
behind n x w found is small = grind (arith, nat_tests)

-- if the search for a number that is at least n fails, all numbers of the list are less than n
pub all_from_find : (n : ℕ) (xs : List ℕ) → find (λ w. nat_le n w) xs ≡ None → All (λ w. w < n) xs
all_from_find n [] none k d within = absurd (omega arith)
all_from_find n (x ∷ xs) none zero d within = (parts n x _ none).0
all_from_find n (x ∷ xs) none (suc k) d within = all_from_find n xs (parts n x _ none).1 k d (omega arith)

-- if the search for a number that is at least n succeeds, not all numbers of the list are less than n
none_found : (n w : ℕ) (xs : List ℕ) → find (λ w. nat_le n w) xs ≡ Some w → All (λ w. w < n) xs → ⊥
none_found n w [] found small = cc
none_found n w (x ∷ xs) found small =
    none_found n w xs (behind n x w _ found (small 0 0 (omega arith))) (λ k d within. small (suc k) d (omega arith))

not_before : {draft : ParityGame} {v w u x : ℕ} → IsFirstUnknown draft v w → IsFirstUnknown draft u x → v ≤ u
not_before {v = v} {u = u} first second = elim (cases_lt u v) [
  | inl less ↦ absurd (none_found _ _ _ second.unknown (first.before u less))
  | inr more ↦ more
]

-- the smallest vertex with an unknown successor (a number that is not a vertex) is unique, and so is its first unknown
-- successor
pub first_unknown_once : {draft : ParityGame} {v w u x : ℕ} → IsFirstUnknown draft v w → IsFirstUnknown draft u x →
    (v ≡ u) × (w ≡ x)
first_unknown_once {v = v} {w = w} {u = u} {x = x} first second = search (rules, not_before)

-- no vertex has an unknown successor if each successor is a vertex
pub no_first_unknown : {draft : ParityGame} {v w : ℕ} → NoneUnknown draft → IsFirstUnknown draft v w → ⊥
no_first_unknown {v = v} known first = none_found _ _ _ first.unknown (known v first.is_vertex)
