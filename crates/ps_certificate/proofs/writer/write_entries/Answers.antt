use Rattle.std.proofs.Common.{arith}
use Rattle.std.proofs.lemmas.Grind.{common_steps}
use Rattle.std.specs.List.{All}
use Rattle.ps_certificate.specs.Certificates.{EntryData, no_entry}
use Rattle.ps_certificate.specs.Written.{IsWord}
use Rattle.ps_certificate.proofs.Rereading.WritingSteps.{all_taken}
use Rattle.ps_certificate.proofs.writer.write_entries.Goals as goal
use Rattle.ps_text.proofs.Combinators.Splits.{all_taken_all}

pub loop-vertex-preserved : goal.loop-vertex-preserved
loop-vertex-preserved c = record {
  bytes = grind (arith, common_steps);
  ids = all_taken IsWord c.args.game.now.ids c.loop-vertex.vertex 0 (grind arith) c.loop-vertex.invariant.ids
      c.in_ok-write_entry.ensures.id;
  counts = all_taken (λ (e : EntryData). All IsWord e.counts) c.args.entries.now c.loop-vertex.vertex no_entry
      (omega (arith, c.loop-vertex-test.true, c.len-vertex-end.ensures)) c.loop-vertex.invariant.counts
      c.in_ok-write_entry.ensures.counts;
}

pub returns-clause-ids : goal.returns-clause-ids
returns-clause-ids c = all_taken_all IsWord c.args.game.now.ids c.loop-vertex.vertex
    (omega (arith, c.loop-vertex-test.false, c.len-vertex-end.ensures, c.requires.ids)) c.loop-vertex.invariant.ids

pub returns-clause-counts : goal.returns-clause-counts
returns-clause-counts c = all_taken_all (λ (e : EntryData). All IsWord e.counts) c.args.entries.now c.loop-vertex.vertex
    (omega (arith, c.loop-vertex-test.false, c.len-vertex-end.ensures)) c.loop-vertex.invariant.counts
