use Rattle.std.proofs.Common.{◌≡◌, ℕ, ◌<◌, get_or, true, false}
use Rattle.ps_certificate.proofs.FlawsAndValidity.Windows.{AreMarks}
use Rattle.ps_certificate.proofs.fitted.window_present.Given as goal

-- each marked number is some vertex's priority; if the list `window` contains the priority of a vertex before the
-- loop's index, this priority is marked
abbrev pub invariant-loop-vertex : goal.invariant-loop-vertex
invariant-loop-vertex g l = AreMarks (g.A.Arena.game l.arena) l.window.list.now l.seen l.vertex

-- each number of the list before the loop's index is marked
abbrev pub invariant-loop-place : goal.invariant-loop-place
invariant-loop-place g l = (k : ℕ) → k < l.place → get_or l.seen k false ≡ true
