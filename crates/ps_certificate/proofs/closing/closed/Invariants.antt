use Rattle.std.proofs.Common.{ℕ, ◌<◌}
use Rattle.ps_certificate.specs.Inner.Prefixes.{IsSoundAt}
use Rattle.ps_certificate.proofs.closing.closed.Given as goal

-- no vertex before the loop's index has a wrong move, or an edge that the winner's moves allow but that leaves the
-- winner's region
abbrev pub invariant-loop-vertex : goal.invariant-loop-vertex
invariant-loop-vertex g l = (v : ℕ) → v < l.vertex → IsSoundAt (g.A.Arena.game l.arena) l.certificate v
