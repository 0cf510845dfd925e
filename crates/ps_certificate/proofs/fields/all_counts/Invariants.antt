use Rattle.std.proofs.Common.{◌≡◌, ◌-◌, length}
use Rattle.ps_certificate.specs.Texts.{counts}
use Rattle.ps_certificate.proofs.ReadCertificates.Loops.{Listing}
use Rattle.ps_certificate.proofs.fields.all_counts.Given as goal

abbrev pub invariant-loop : goal.invariant-loop
invariant-loop l = Listing (counts l.count) l.initial.cursor (counts (l.count - l.counter)) l.cursor l.counts
    × (length l.counts ≡ l.counter)
