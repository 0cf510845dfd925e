-- Sums over the numbers below a bound, compared term by term.
use Rattle.std.proofs.Common.{◌≡◌, ℕ, zero, suc, ◌+◌, ◌*◌, ◌<◌, ◌≤◌, inl, inr, refl, ap, add-one, arith, Bool}
use Rattle.std.proofs.Common.{nat_lt, rules}
use Rattle.std.proofs.lemmas.Bool.{cases_eq, cases_lt, lt-ltb, le-ltb}
use Rattle.ps_measure.specs.Sums.{sum_below, counted, count_below}

pub sum_below-le : (f g : ℕ → ℕ) (n : ℕ) → ((v : ℕ) → v < n → f v ≤ g v) → sum_below f n ≤ sum_below g n
sum_below-le f g zero each = omega arith
sum_below-le f g (suc n) each = omega (arith, sum_below-le f g n (λ v below. grind arith), each n (omega arith))

-- if f is at most g everywhere, and is less than g by at least x at some number, the sum of f is less than the sum of g
-- by at least x
pub sum_below-more : (f g : ℕ → ℕ) (n u x : ℕ) → u < n → ((v : ℕ) → v < n → f v ≤ g v) → f u + x ≤ g u →
    sum_below f n + x ≤ sum_below g n
sum_below-more f g zero u x below each more = absurd (omega arith)
sum_below-more f g (suc n) u x below each more = elim (cases_eq u n) [
  | inl same ↦ search (rules, sum_below-le)
  | inr apart ↦ omega (
    arith,
    sum_below-more f g n u x (omega arith) (λ v less. each v (omega arith)) more,
    each n (omega arith),
  )
]

-- a sum is at most the number of terms times a bound on each term
pub sum_below-bound : (f : ℕ → ℕ) (n b : ℕ) → ((v : ℕ) → v < n → f v ≤ b) → sum_below f n ≤ n * b
sum_below-bound f zero b each = omega arith
sum_below-bound f (suc n) b each = omega (arith, sum_below-bound f n b (λ v below. grind arith), each n (omega arith))

pub sum_below-same : (f g : ℕ → ℕ) (n : ℕ) → ((v : ℕ) → v < n → f v ≡ g v) → sum_below f n ≡ sum_below g n
sum_below-same f g zero each = refl
sum_below-same f g (suc n) each = omega (arith, sum_below-same f g n (λ v below. grind arith), each n (omega arith))

pub sum_below-zero : (f : ℕ → ℕ) (n : ℕ) → ((v : ℕ) → f v ≡ 0) → sum_below f n ≡ 0
sum_below-zero f zero each = refl
sum_below-zero f (suc n) each = omega (arith, sum_below-zero f n each, each n)

-- a sum with one more term is the old sum plus this term
pub sum_below-next : (f : ℕ → ℕ) (n : ℕ) → sum_below f (n + 1) ≡ sum_below f n + f n
sum_below-next f n = ap (sum_below f) (add-one n)

-- ## The number of numbers that pass a test

pub counted-bound : (b : Bool) → counted b ≤ 1
counted-bound b = search rules

pub count_below-bound : (test : ℕ → Bool) (n : ℕ) → count_below test n ≤ n
count_below-bound test n = omega (arith, sum_below-bound (λ v. counted (test v)) n 1 (λ v _. counted-bound (test v)))

-- the test whether a number is positive counts as 1 for a positive number, and as 0 for 0
pub positive_none : (x : ℕ) → x ≡ 0 → counted (nat_lt 0 x) ≡ 0
positive_none x none = ap counted (le-ltb 0 x (omega arith))

pub positive_some : (x : ℕ) → 0 < x → counted (nat_lt 0 x) ≡ 1
positive_some x some = ap counted (lt-ltb 0 x some)

pub positive_bound : (x : ℕ) → counted (nat_lt 0 x) ≤ x
positive_bound x = search (rules, cases_lt, positive_some, positive_none)

-- the number of indices below n at which f is not 0
abbrev pub raised_below : (ℕ → ℕ) → ℕ → ℕ
raised_below f n = count_below (λ v. nat_lt 0 (f v)) n

pub raised_none : (f : ℕ → ℕ) (n : ℕ) → ((v : ℕ) → f v ≡ 0) → raised_below f n ≡ 0
raised_none f n each = sum_below-zero (λ v. counted (nat_lt 0 (f v))) n (λ v. positive_none (f v) (each v))

pub raised_same : (f g : ℕ → ℕ) (n : ℕ) → ((v : ℕ) → f v ≡ g v) → raised_below f n ≡ raised_below g n
raised_same f g n same = search (rules, sum_below-same)
