-- Walks that return to their start. If a walk returns to its start, a number that never increases along the walk is the
-- same at all vertices of the walk. If a walk returns to its start and none of its steps leaves a set, the set contains
-- all vertices of the walk or none.
use Rattle.std.proofs.Common.{◌≡◌, ℕ, zero, suc, ◌+◌, ◌<◌, ◌≤◌, ◌⊎◌, inl, inr, Bool, true, false, cond, ap, ◌∙◌}
use Rattle.std.proofs.Common.{arith, rules}
use Rattle.std.specs.Prelude.{IsTrue}
use Rattle.std.proofs.lemmas.Bool.{cases_eq, cases_Bool}

falling : (y : ℕ → ℕ) (k : ℕ) → ((t : ℕ) → t < k → y (t + 1) ≤ y t) → (t j : ℕ) → t ≤ j → j ≤ k → y j ≤ y t
falling y k steps t zero after within = let same : y t ≡ y 0 = ap y (omega arith) in omega arith
falling y k steps t (suc j) after within = elim (cases_eq t (suc j)) [
  | inl is ↦ (let same : y t ≡ y (suc j) = ap y is in omega arith)
  | inr other ↦ grind (arith, falling y k steps t j (omega arith) (omega arith))
]

-- a sequence of numbers that never increases, and whose last number equals its first, is constant
pub level : (y : ℕ → ℕ) (k : ℕ) → y k ≡ y 0 → ((t : ℕ) → t < k → y (t + 1) ≤ y t) → (t : ℕ) → t ≤ k → y t ≡ y 0
level y k closes steps t within =
    grind (arith, falling y k steps 0 t (omega arith) within, falling y k steps t k within (omega arith))

-- along a walk that returns to its first vertex, no rank decreases at every step
pub no_descent : (rank : ℕ → ℕ) (walk : ℕ → ℕ) (k : ℕ) → 0 < k → walk k ≡ walk 0 →
    ((t : ℕ) → t < k → rank (walk (t + 1)) < rank (walk t)) → ⊥
no_descent rank walk k some closes falls =
    let same : rank (walk 1) ≡ rank (walk 0) = level (λ t. rank (walk t)) k (ap rank closes) (λ t less.
    let step : rank (walk (t + 1)) < rank (walk t) = falls t less in omega arith) 1 some in
    omega (arith, falls 0 some)

-- a truth value as a number: 0 for true, 1 for false
abbrev distance : Bool → ℕ
distance b = cond b 0 1

distance-le : (a b : Bool) → (a ≡ true → b ≡ true) → distance b ≤ distance a
distance-le a b h = search rules

distance-same : (a b : Bool) → distance a ≡ distance b → a ≡ b
distance-same a b h = search rules

-- if a walk returns to its start and none of its steps leaves a set, the set contains all vertices of the walk or none
pub all_or_none : (set : ℕ → Bool) (walk : ℕ → ℕ) (k : ℕ) → walk k ≡ walk 0 →
    ((t : ℕ) → t < k → IsTrue (set (walk t)) → IsTrue (set (walk (t + 1))))
    → ((t : ℕ) → t < k → IsTrue (set (walk t))) ⊎ ((t : ℕ) → t < k → set (walk t) ≡ false)
all_or_none set walk k closes steps =
    let same = λ (t : ℕ) (less : t < k). distance-same (set (walk t)) (set (walk 0))
    (level (λ t. distance (set (walk t))) k (ap (λ v. distance (set v)) closes)
    (λ t less. distance-le (set (walk t)) (set (walk (t + 1))) (steps t less)) t (omega arith)) in
    elim (cases_Bool (set (walk 0))) [
      | inl there ↦ inl (λ t less. same t less ∙ there)
      | inr not_there ↦ inr (λ t less. same t less ∙ not_there)
    ]

-- a search through the first k vertices of a walk finds one that is in the set, or shows that none of them is
pub some_or_none : (set : ℕ → Bool) (walk : ℕ → ℕ) (k : ℕ) →
    ((t : ℕ) × (t < k) × IsTrue (set (walk t))) ⊎ ((t : ℕ) → t < k → set (walk t) ≡ false)
some_or_none set walk zero = inr (λ t less. absurd (omega arith))
some_or_none set walk (suc k) = grind (arith, cases_Bool (set (walk k)), cases_eq, some_or_none set walk k)
