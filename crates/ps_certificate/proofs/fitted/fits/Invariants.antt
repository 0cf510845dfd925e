use Rattle.std.proofs.Common.{ℕ, ◌<◌}
use Rattle.ps_certificate.specs.Inner.Prefixes.{EntryFits}
use Rattle.ps_certificate.proofs.fitted.fits.Given as goal

-- each of the certificate's entries before the loop's index fits the game
abbrev pub invariant-loop-vertex : goal.invariant-loop-vertex
invariant-loop-vertex g l = (v : ℕ) → v < l.vertex → EntryFits l.vertices l.certificate v
