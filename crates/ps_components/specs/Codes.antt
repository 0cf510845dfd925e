-- The code (number) that represents the status of a vertex in the search for components.
use Rattle.std.specs.Prelude.{ℕ, ◌-◌, ◌^◌, ◌==◌, nat_le, if◌then◌else◌}
use Rattle.ps_components.specs.declared.statuses.Status.{Status}
use Rattle.ps_components.specs.declared.statuses.Status.TheVariants.{Unseen, Active, Closed}

-- The status of a vertex, given its 8-byte code. The code 0 means that the vertex is unseen. The code k + 1, if it is
-- at most 2 ^ 63, means that the vertex is finished, in component k. The code 2 ^ 63 + 1 + p means that the vertex is
-- at index p of the search path.
abbrev pub status_of : ℕ → Status
status_of code =
    if code == 0 then Unseen else if nat_le code (2 ^ 63) then Closed (code - 1) else Active (code - 2 ^ 63 - 1)

-- the status of a vertex, given its 4-byte code: the rule is that of 8-byte codes, with 2 ^ 31 in place of 2 ^ 63
abbrev pub narrow_status_of : ℕ → Status
narrow_status_of code =
    if code == 0 then Unseen else if nat_le code (2 ^ 31) then Closed (code - 1) else Active (code - 2 ^ 31 - 1)
