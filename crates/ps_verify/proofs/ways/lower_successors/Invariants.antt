use Rattle.ps_verify.specs.Inner.Ways.{HasLowered}
use Rattle.ps_verify.proofs.ways.lower_successors.Given as goal

abbrev pub invariant-loop-number : goal.invariant-loop-number
invariant-loop-number l = HasLowered l.game l.vertex l.number l.initial.firsts l.firsts
