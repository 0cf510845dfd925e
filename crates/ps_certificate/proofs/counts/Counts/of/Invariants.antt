use Rattle.std.proofs.Common.{◌≡◌, take}
use Rattle.ps_certificate.proofs.counts.Counts.of.Given as goal

abbrev pub invariant-loop-count : goal.invariant-loop-count
invariant-loop-count l = l.counts ≡ take l.count-index l.list
