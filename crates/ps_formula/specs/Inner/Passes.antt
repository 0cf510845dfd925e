-- Until and release along a lasso, from its end to its start. (For private functions.)
use Rattle.std.specs.Prelude.{ℕ, ◌<◌, Bool, true, false, ◌&&◌, ◌||◌}
use Rattle.ps_formula.specs.Satisfaction.{Reaches, Keeps}

-- until or release, of two predicates of indices
abbrev pub Along : (is_until : Bool) → (A B : ℕ → Type 0) → ℕ → Type 0
Along true A B i = Reaches A B i
Along false A B i = Keeps A B i

-- the truth of until or release at an index, from the truths of both sides and its own truth at the next index
abbrev pub step : (is_until a b next : Bool) → Bool
step true a b next = b || (a && next)
step false a b next = b && (a || next)

-- the right side of an until or release of which only the indices before n count
abbrev pub Cut : (is_until : Bool) → (ℕ → Type 0) → (n : ℕ) → ℕ → Type 0
Cut true B n j = B j × (j < n)
Cut false B n j = j < n → B j
