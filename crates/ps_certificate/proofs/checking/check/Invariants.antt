use Rattle.std.proofs.Common.{ℕ, ◌<◌}
use Rattle.std.specs.Prelude.{IfNone, IfSome}
use Rattle.ps_certificate.specs.Inner.Prefixes.{IsSoundAt, KeepCountsBefore, IsFirstUnranked}
use Rattle.ps_certificate.proofs.checking.check.Given as goal

-- No vertex before the loop's index has a wrong move, or an edge that the winner's moves allow but that leaves the
-- winner's region. If no flaw in counts was found, each edge that leaves a vertex before the loop's index, and that the
-- winner's moves allow, obeys the certificate's rule of counts.
abbrev pub invariant-loop-vertex : goal.invariant-loop-vertex
invariant-loop-vertex g l = record {
  sound : (v : ℕ) → v < l.vertex → IsSoundAt (g.A.Arena.game l.arena) l.certificate v;
  none : IfNone l.unranked (KeepCountsBefore (g.A.Arena.game l.arena) l.certificate l.vertex);
  some : IfSome l.unranked (IsFirstUnranked (g.A.Arena.game l.arena) l.certificate);
}
