use Rattle.ps_brief.proofs.DraftedMoves.DraftsMade.{ready_kept}
use Rattle.ps_brief.proofs.DrawnMachines.DrawnParts.{pairs_differ}
use Rattle.ps_brief.proofs.DrawnMachines.VisitedKeys.{reached_kept}
use Rattle.ps_brief.proofs.drawing.parts_by.Goals as goal

pub copied-requires-clause-drawable : goal.copied-requires-clause-drawable
copied-requires-clause-drawable c = record {
  ready = ready_kept c.args.plan.now c.in_ok-nodes.ensures.keeps c.requires.ready;
  reached = reached_kept c.args.plan.now c.in_ok-nodes.ensures.keeps c.args.reached.now c.requires.reached;
  memories = c.requires.memories;
}

pub copied-requires-clause-paired : goal.copied-requires-clause-paired
copied-requires-clause-paired c = rw (c.deref.ensures.value, c.deref-2.ensures.value) (
  c.paired_nodes.new.pairs.keys,
  record {
    differ = pairs_differ c.paired_nodes.new.pairs.keys c.as_slice.ensures.unique;
    paired = c.in_ok-nodes.ensures.paired;
    memories = rw c.as_slice.ensures.keys at c.in_ok-values.ensures;
  },
)
