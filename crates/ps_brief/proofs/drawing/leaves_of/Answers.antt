use Rattle.std.proofs.Common.{◌∙◌, arith}
use Rattle.ps_brief.specs.Listings.{listed_keys}
use Rattle.ps_brief.proofs.DraftedMoves.NotedLeaves.{all_noted}
use Rattle.ps_brief.proofs.drawing.leaves_of.Goals as goal

pub loop-place-preserved : goal.loop-place-preserved
loop-place-preserved c = record {
  many = c.note_targets.ensures.many ∙ c.loop-place.invariant.many;
  noted = λ setting t is. c.note_targets.ensures.noted setting t c.loop-place.place c.step_at.result.priority is
      c.step_at.ensures (c.loop-place.invariant.noted setting t is);
}

pub returns : goal.returns
returns c setting t is = all_noted setting (listed_keys c.args.listing.now) c.loop-place.leaves.items c.loop-place.place
    (omega (arith, c.loop-place-test.false, c.count-place-end.ensures)) (c.loop-place.invariant.noted setting t is)
