use Rattle.std.proofs.Common.{◌≡◌, ◌++◌, ◌+◌, ◌≤◌, length, take, vec_len, vec_capacity}
use Rattle.ps_game.proofs.vertices.append.Given as goal

-- the numbers so far are appended, and there is room for the others
abbrev pub invariant-loop-number : goal.invariant-loop-number
invariant-loop-number l =
    (l.list.items ≡ l.initial.list.items ++ take l.number-index l.numbers) ×
    (vec_len l.list + length l.numbers ≤ vec_capacity l.list + l.number-index)
