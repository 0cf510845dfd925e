use Rattle.ps_verify.specs.Inner.Ways.{AreFirsts}
use Rattle.ps_verify.proofs.ways.firsts.Given as goal

abbrev pub invariant-loop-vertex : goal.invariant-loop-vertex
invariant-loop-vertex l = AreFirsts l.game l.vertex l.firsts.items
