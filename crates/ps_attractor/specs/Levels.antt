-- The level of a vertex, stored as a number that is at most the limit (the largest number of an integer type).
use Rattle.std.specs.Prelude.{◌≡◌, ℕ, ◌-◌, ◌^◌, ◌<◌, ◌⊎◌, ◌==◌, if◌then◌else◌}

-- a stored number that equals the limit means the largest `usize`, and every other stored number means itself
abbrev pub level_in : ℕ → ℕ → ℕ
level_in limit number = if number == limit then 2 ^ 64 - 1 else number

-- the level is less than the limit or is the largest `usize`, so it can be stored
abbrev pub IsLevel : ℕ → ℕ → Type 0
IsLevel limit level = (level < limit) ⊎ (level ≡ 2 ^ 64 - 1)
