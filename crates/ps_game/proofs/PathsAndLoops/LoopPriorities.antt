-- The priority of a loop is the greatest priority of its vertices: no vertex has a greater priority, and some vertex
-- has this priority.
use Rattle.std.proofs.Common.{◌≡◌, ℕ, suc, ◌+◌, ◌-◌, ◌<◌, ◌≤◌, inl, inr, List, [], ◌∷◌, length, get_or, map}
use Rattle.std.proofs.Common.{refl, arith, rules}
use Rattle.std.specs.Prelude.{slice_range}
use Rattle.std.proofs.lemmas.Bool.{cases_lt}
use Rattle.std.proofs.lemmas.List.Recursion.{max_bounds}
use Rattle.std.proofs.lemmas.List.{get_or-map, get_or-take, get_or-drop, length-map, length-take-le, length-drop}
use Rattle.ps_game.specs.Games.{ParityGame, priority_of}
use Rattle.ps_game.specs.Plays.{greatest, loop_priority}

pub le-greatest : (xs : List ℕ) (k : ℕ) → k < length xs → get_or xs k 0 ≤ greatest xs
le-greatest xs k within = max_bounds greatest (λ x. x) refl (λ x xs. refl) xs k 0 within

greatest_stands : (xs : List ℕ) → 0 < length xs → (k : ℕ) × (k < length xs) × (get_or xs k 0 ≡ greatest xs)
greatest_stands [] some = absurd (omega arith)
greatest_stands (x ∷ []) some = (0, omega arith, omega arith)
greatest_stands (x ∷ y ∷ ys) some =
    let behind = greatest_stands (y ∷ ys) (omega arith) in
    elim (cases_lt (greatest (y ∷ ys)) x) [
      | inl less ↦ (0, omega arith, omega arith)
      | inr more ↦ (suc behind.0, omega (arith, behind.1), omega (arith, behind.2))
    ]

-- the list of the priorities at positions i to j - 1 of a path: its length, and its entries
module _ (game : ParityGame) (path : List ℕ) (i j : ℕ) (within : j ≤ length path) where
  places : length (map (priority_of game) (slice_range path i j)) ≡ j - i
  places = search (rules, length-map, length-take-le, length-drop)

  priority_at : (k : ℕ) → k < j - i →
      get_or (map (priority_of game) (slice_range path i j)) k 0 ≡ priority_of game (get_or path (i + k) 0)
  priority_at k below = search (rules, get_or-map, places, length-map, get_or-take, get_or-drop)

-- no priority in a loop is greater than the priority of the loop
pub le-loop_priority : (game : ParityGame) (path : List ℕ) (start end place : ℕ) → start ≤ place → place < end →
    end ≤ length path → priority_of game (get_or path place 0) ≤ loop_priority game path start end
unfolding loop_priority
le-loop_priority game path i j k after before within =
    let all : List ℕ = map (priority_of game) (slice_range path i j) in
    grind (
      arith,
      priority_at game path i j within (k - i) (omega arith),
      le-greatest all (k - i) (omega (arith, places game path i j within)),
    )

-- some vertex of a loop has the priority of the loop
pub loop_priority_stands : (game : ParityGame) (path : List ℕ) (start end : ℕ) → start < end → end ≤ length path →
    (place : ℕ) × (start ≤ place) × (place < end) × (priority_of game (get_or path place 0) ≡ loop_priority game path
    start end)
unfolding loop_priority
loop_priority_stands game path i j rises within =
    let many = places game path i j within in
    grind (arith, greatest_stands, priority_at)
