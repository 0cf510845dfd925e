use Rattle.std.proofs.Common.{◌≡◌, ◌++◌, drop}
use Rattle.ps_certificate.specs.Written.{pairs}
use Rattle.ps_certificate.proofs.Rereading.StoredPairs.{stored_pairs, AreWords}
use Rattle.ps_certificate.proofs.writer.write_pairs.Given as goal

abbrev pub invariant-loop-number : goal.invariant-loop-number
invariant-loop-number l = record {
  bytes : l.out.items ++ stored_pairs l.priorities (drop l.number l.counts-inside.placed.list.now) ≡
      l.initial.out.items ++ pairs l.priorities l.counts;
  words : AreWords l.counts-inside.placed.list.now l.number;
}
