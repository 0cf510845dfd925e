use Rattle.ps_components.proofs.Reaching.{reached-more}
use Rattle.ps_components.proofs.search.Search.run.Goals as goal

pub loop-bound-preserved : goal.loop-bound-preserved
loop-bound-preserved g c = (let i = c.loop-bound.invariant in record {
  sound = c.in_ok-step.ensures.sound;
  kept = λ v un. i.kept v (c.in_ok-step.ensures.kept v un);
  reached = reached-more c.requires _ i.sound i.reached c.in_ok-step.ensures.reached;
})
