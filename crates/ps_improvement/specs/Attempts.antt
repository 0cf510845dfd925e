-- The sizes of the lists in the result of `attempt`.
use Rattle.std.specs.Prelude.{◌≡◌, ℕ, length}
use Rattle.ps_improvement.specs.declared.attempting.Attempted.{Attempted}
use Rattle.ps_improvement.specs.declared.attempting.Attempted.TheVariants.{Found, OutOfFuel, OutOfRoom}

-- the region and both tables of moves that were found have one entry for each of `count` vertices
abbrev pub IsAttemptFor : ℕ → Attempted → Type 0
IsAttemptFor count (Found won first second) = (length won ≡ count) × (length first ≡ count) × (length second ≡ count)
IsAttemptFor count OutOfFuel = Unit {0}
IsAttemptFor count OutOfRoom = Unit {0}
