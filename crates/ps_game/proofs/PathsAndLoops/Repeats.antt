-- A list with more entries than possible values has two entries with the same value.
use Rattle.std.proofs.Common.{◌≡◌, ◌≢◌, ℕ, suc, ◌<◌, ◌⊎◌, inl, inr, List, [], ◌∷◌, Bool, true, false, ◌==◌, length}
use Rattle.std.proofs.Common.{refl, arith, rules}
use Rattle.std.specs.List.{All, AllPairs, list_any}
use Rattle.std.proofs.lemmas.Bool.{eqb-true, eq-eqb}
use Rattle.std.proofs.lemmas.Bool.Decides.{Decides-eqb}
use Rattle.std.proofs.lemmas.List.Folds.{Any-from_list_any, list_any-from_Any}
use Rattle.std.proofs.lemmas.List.Kept.{AllPairs-cons}
use Rattle.std.proofs.lemmas.List.{get_or_default}
use Rattle.std.proofs.lemmas.Map.Made.{IsDistinct-from_AllPairs}
use Rattle.std.proofs.lemmas.Map.Steps.{length-le_from_distinct_below}
use Rattle.ps_game.specs.Games.{ParityGame, vertex_count}
use Rattle.ps_game.specs.Plays.{IsPath}
use Rattle.ps_game.specs.Strategies.{HasLoop}

-- if the values of a list's tail are distinct, either the values of the whole list are distinct, or two of them are
-- equal
head_repeats : (x : ℕ) (xs : List ℕ) → AllPairs (λ x y. x ≢ y) xs → (b : Bool) → list_any (λ y. x == y) xs ≡ b →
    AllPairs (λ x y. x ≢ y) (x ∷ xs) ⊎ HasLoop (x ∷ xs)
head_repeats x xs differ true there =
    let found = Any-from_list_any (λ y. x == y) xs there in
    inr (
      0,
      suc found.0,
      grind (arith, eqb-true, get_or_default),
    )
head_repeats x xs differ false none = search (rules, AllPairs-cons, list_any-from_Any, get_or_default, eq-eqb)

-- the values of a list are distinct, or two of them are equal
differ_or_repeat : (xs : List ℕ) → AllPairs (λ x y. x ≢ y) xs ⊎ HasLoop xs
differ_or_repeat [] = inl (λ i j d rises within. absurd (omega arith))
differ_or_repeat (x ∷ xs) = elim (differ_or_repeat xs) [
  | inr repeated ↦ inr (
    suc repeated.0,
    suc repeated.1,
    grind arith,
  )
  | inl differ ↦ head_repeats x xs differ (list_any (λ y. x == y) xs) refl
]

-- a number that is in a list of numbers less than n is less than n
below_from_there : (n : ℕ) (xs : List ℕ) → All (λ x. x < n) xs → (q : ℕ) → list_any (λ y. q == y) xs ≡ true → q < n
below_from_there n xs below q there = search (rules, Any-from_list_any, eqb-true)

-- a list of more than n numbers less than n has two equal entries
pub repeats : (n : ℕ) (xs : List ℕ) → All (λ x. x < n) xs → n < length xs → HasLoop xs
repeats n xs below many = elim (differ_or_repeat xs) [
  | inr repeated ↦ repeated
  | inl differ ↦ grind (
    arith,
    length-le_from_distinct_below xs n (IsDistinct-from_AllPairs Decides-eqb xs differ) (below_from_there n xs below),
  )
]

-- a path with more vertices than the game has a loop
pub HasLoop-IsPath : (game : ParityGame) (path : List ℕ) → IsPath game path →
    vertex_count game < length path → HasLoop path
HasLoop-IsPath game path is_path long =
    let IsVertex : ℕ → Type 0 = λ v. v < vertex_count game in
    repeats (vertex_count game) path (λ k d within. search (rules, get_or_default, is_path.vertices)) long
