use Rattle.ps_verify.proofs.FirstWays.{fall, way_is}
use Rattle.ps_verify.proofs.readings.way_in.Goals as goal

pub way_to-requires-clause-fall : goal.way_to-requires-clause-fall
way_to-requires-clause-fall c = rw c.deref.ensures.value (fall c.in_ok-firsts.ensures c.requires.reached)

pub returns : goal.returns
returns c =
    way_is c.in_ok-firsts.ensures c.requires.reached (rw c.deref.ensures.value at c.in_ok-way.ensures)
