use Rattle.std.proofs.Common.{drop}
use Rattle.ps_certificate.specs.Texts.{entries}
use Rattle.ps_certificate.proofs.ReadCertificates.Loops.{Listing}
use Rattle.ps_certificate.proofs.text.entries.Given as goal

abbrev pub invariant-loop-vertex : goal.invariant-loop-vertex
invariant-loop-vertex l = Listing (entries l.compact l.known.odd.items l.known.even.items l.known.ids l.game.ids)
    l.initial.cursor (entries l.compact l.known.odd.items l.known.even.items l.known.ids
    (drop l.vertex l.game.ids)) l.cursor l.entries
