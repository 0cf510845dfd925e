use Rattle.std.proofs.Common.{◌∙◌, ap, arith}
use Rattle.std.specs.List.{range_with_len}
use Rattle.ps_verify.proofs.FirstWays.{firsts_lent, firsts_none}
use Rattle.ps_verify.proofs.ways.firsts.Goals as goal

pub loop-vertex-init : goal.loop-vertex-init
loop-vertex-init c = firsts_none (c.in_ok-firsts.ensures ∙ ap (range_with_len 0) c.count.ensures.vertices)

pub loop-vertex-preserved : goal.loop-vertex-preserved
loop-vertex-preserved c = firsts_lent c.loop-vertex.firsts.len c.lower_successors.new.firsts
    (omega (arith, c.loop-vertex.firsts.ok)) c.loop-vertex.invariant
    (rw c.deref_mut.ensures.value at c.lower_successors.ensures)
