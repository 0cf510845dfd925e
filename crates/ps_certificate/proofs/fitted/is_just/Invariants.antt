use Rattle.std.proofs.Common.{◌≡◌, ℕ, ◌<◌, get_or, true, false}
use Rattle.ps_certificate.proofs.FlawsAndValidity.Windows.{AreJust}
use Rattle.ps_certificate.proofs.fitted.is_just.Given as goal

-- the priorities of the vertices before the loop's index are listed and marked, if they have the given parity; each
-- marked number is the priority of some vertex
abbrev pub invariant-loop-vertex : goal.invariant-loop-vertex
invariant-loop-vertex g l = AreJust (g.A.Arena.game l.arena) l.parity l.rising.list.now l.seen l.vertex

-- each listed number before the loop's index is marked
abbrev pub invariant-loop-place : goal.invariant-loop-place
invariant-loop-place g l = (k : ℕ) → k < l.place → get_or l.seen k false ≡ true
