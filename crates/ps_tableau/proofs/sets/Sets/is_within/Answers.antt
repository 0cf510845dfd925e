use Rattle.ps_tableau.proofs.SetLemmas.{within_both, within_one}
use Rattle.ps_tableau.proofs.sets.Sets.is_within.Goals as goal

pub loop-first-preserved-then-left-right : goal.loop-first-preserved-then-left-right
loop-first-preserved-then-left-right c =
    let first = c.in-Some.ensures in
    let second = c.in-Some-parts.ensures in
    record {
      first = first.held;
      second = second.held;
      within = λ within. c.loop-first.invariant.within (within_both first second c.if-left-right.true within);
    }

pub loop-first-preserved : goal.loop-first-preserved
loop-first-preserved c =
    let second = c.in-Some-parts.ensures in
    record {
      first = c.loop-first.invariant.first;
      second = second.held;
      within = λ within. c.loop-first.invariant.within (within_one _ second within);
    }
