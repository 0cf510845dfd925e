-- The counts that were read so far in a line of a certificate's compact text, as pairs of a priority and its count.
use Rattle.std.specs.Prelude.{ℕ, ◌≤◌, Option, Some, None, IsSomeAnd, ◌==◌, if◌then◌else◌}

-- the priority of the last pair that was read, and the count for each priority, which is 0 if no pair gave one
pub record Pairs : Type 0 where
  pub last : Option ℕ
  pub count : ℕ → ℕ

abbrev pub no_pairs : Pairs
no_pairs = record { last = None; count = λ _. 0 }

abbrev pub with_pair : Pairs → ℕ → ℕ → Pairs
with_pair pairs p m = record { last = Some p; count = λ q. if q == p then m else pairs.count q }

-- the priority of the next pair is not greater than the priority of the pair before it
abbrev pub DoesNotRise : Pairs → ℕ → Type 0
DoesNotRise pairs p = IsSomeAnd pairs.last (λ last. p ≤ last)
