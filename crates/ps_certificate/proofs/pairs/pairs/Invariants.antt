use Rattle.std.proofs.Common.{length}
use Rattle.ps_certificate.proofs.ReadCertificates.PairLoops.{PairsSoFar}
use Rattle.ps_certificate.proofs.pairs.pairs.Given as goal

abbrev pub invariant-more : goal.invariant-more
invariant-more l = PairsSoFar l.priorities.list.now l.initial.cursor l.cursor l.last l.counts

abbrev pub decreases-more : goal.decreases-more
decreases-more l = length l.cursor.pieces
