-- A reader or writer of std together with a record of whether its calls failed, and the results of its calls.
use Rattle.std.specs.Prelude.{◌≤◌, ℕ, List, length, Bool, Option, IfSome, None, Some, Result, Ok, Err}
use Rattle.ps_program.specs.declared.watched.Watched.{Watched}

-- the reader or writer of std that a `Watched` uses
abbrev pub watched_inner : {T : Type 0} → Watched T → T
watched_inner watched = watched.inner

-- a call failed
abbrev pub watched_failed : {T : Type 0} → Watched T → Bool
watched_failed watched = watched.has_failed

-- whether some write was given bytes and accepted none of them
abbrev pub watched_stalled : {T : Type 0} → Watched T → Bool
watched_stalled watched = watched.has_stalled

-- the value that a call returned, or None if the call failed
abbrev pub answered : {T E : Type 0} → Result T E → Option T
answered (Ok value) = Some value
answered (Err error) = None

-- the number that a call returned is at most the number of bytes that it was given
abbrev pub CountsWithin : List ℕ → Option ℕ → Type 0
CountsWithin bytes count = IfSome count (λ n. n ≤ length bytes)
