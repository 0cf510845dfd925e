use Rattle.std.proofs.Common.{◌∙◌, arith}
use Rattle.ps_verify.proofs.FirstWays.{successor_within}
use Rattle.ps_verify.proofs.ways.lower_successors.Goals as goal

pub bounds-firsts-next : goal.bounds-firsts-next
bounds-firsts-next c =
    successor_within c.loop-number.firsts c.requires.is_game c.requires.vertex
    (omega (arith, c.loop-number-test.true, c.degree-number-end.ensures)) c.successor-next.ensures
    (c.loop-number.invariant.each ∙ c.requires.each)

pub offset_bounds-firsts-next : goal.offset_bounds-firsts-next
offset_bounds-firsts-next c = grind (
  arith,
  successor_within c.loop-number.firsts c.requires.is_game c.requires.vertex
      (omega (arith, c.loop-number-test.true, c.degree-number-end.ensures)) c.successor-next.ensures
      (c.loop-number.invariant.each ∙ c.requires.each),
)
