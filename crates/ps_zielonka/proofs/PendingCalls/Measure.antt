-- The bound on the remaining steps of the solver decreases with each step.
use Rattle.std.proofs.Common.{◌≡◌, ℕ, zero, suc, ◌+◌, ◌*◌, ◌<◌, ◌≤◌, List, true, false, refl, ap, arith, rules}
use Rattle.ps_zielonka.specs.Inner.Nests.{size_from, steps, rest_of, waiting_steps, steps_left}

some_step : (m : ℕ) → 1 ≤ steps m
some_step m = search rules

some_rest : (m : ℕ) → 1 ≤ rest_of m
some_rest m = search rules

steps-le : (z m : ℕ) → z ≤ m → steps z ≤ steps m
steps-le zero m less = some_step m
steps-le (suc z) zero less = absurd (omega arith)
steps-le (suc z) (suc m) less = omega (arith, steps-le z m (omega arith))

opened : (z m : ℕ) → z < m → rest_of m + steps z < steps m
opened z m h = search (rules, steps-le)

gone_on : (z m : ℕ) → z < m → steps z < rest_of m
gone_on z m h = search (rules, steps-le)

pub waiting_steps-suc : (levels : List ℕ) (k n : ℕ) → n ≡ k + 1 →
    waiting_steps levels n ≡ waiting_steps levels k + rest_of (size_from (2 * k + 2) levels)
waiting_steps-suc levels k n h = search rules

-- the part of the bound for the pending calls is unchanged if each of these calls has as many undecided vertices as
-- before
waiting_steps-same : (old new : List ℕ) (k : ℕ) → ((i : ℕ) → i < k →
    size_from (2 * i + 2) new ≡ size_from (2 * i + 2) old) → waiting_steps new k ≡ waiting_steps old k
waiting_steps-same old new zero sizes = refl
waiting_steps-same old new (suc k) sizes =
    let before : waiting_steps new k ≡ waiting_steps old k = waiting_steps-same old new k (λ i less. grind arith) in
    omega (arith, ap rest_of (sizes k (omega arith)))

-- the bound on the remaining steps decreases when an iteration begins, since the next recursive call has fewer
-- undecided vertices
pub falls_begun : (old new : List ℕ) (k n : ℕ) → n ≡ k + 1 →
    ((i : ℕ) → i ≤ k → size_from (2 * i + 2) new ≡ size_from (2 * i + 2) old) →
    size_from (2 * n + 2) new < size_from (2 * k + 2) old → steps_left new n false < steps_left old k false
falls_begun old new k n next sizes fewer =
    let waiting : waiting_steps new n ≡ waiting_steps new k + rest_of (size_from (2 * k + 2) new) =
    waiting_steps-suc new k n next in
    grind (arith, waiting_steps-same, opened)

-- the bound on the remaining steps decreases when the current call has no undecided vertex left
pub falls_done : (levels : List ℕ) (k : ℕ) → steps_left levels k true < steps_left levels k false
falls_done levels k = let some = some_step (size_from (2 * k + 2) levels) in omega arith

-- the bound on the remaining steps decreases when the last pending call is solved
pub falls_kept : (old new : List ℕ) (k n : ℕ) → n ≡ k + 1 → new ≡ old → steps_left new k true < steps_left old n true
falls_kept old new k n next same = search (rules, some_rest, waiting_steps-suc)

-- the bound on the remaining steps decreases when the last pending call continues with fewer undecided vertices
pub falls_on : (old new : List ℕ) (k n : ℕ) → n ≡ k + 1 → ((i : ℕ) → i < k →
    size_from (2 * i + 2) new ≡ size_from (2 * i + 2) old) → size_from (2 * k + 2) new < size_from (2 * k + 2) old →
    steps_left new k false < steps_left old n true
falls_on old new k n next sizes fewer = search (rules, gone_on, waiting_steps-same, waiting_steps-suc)
