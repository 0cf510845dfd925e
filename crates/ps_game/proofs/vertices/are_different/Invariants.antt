use Rattle.std.proofs.Common.{◌≢◌, ◌<◌, ℕ, get_or}
use Rattle.ps_game.proofs.vertices.are_different.Given as goal

abbrev pub invariant-loop-place : goal.invariant-loop-place
invariant-loop-place l = (i j : ℕ) → i < j → j < l.place → get_or l.numbers i 0 ≢ get_or l.numbers j 0

abbrev pub invariant-loop-next : goal.invariant-loop-next
invariant-loop-next l = (i j : ℕ) → i < j → j < l.next → get_or l.numbers i 0 < get_or l.numbers j 0
