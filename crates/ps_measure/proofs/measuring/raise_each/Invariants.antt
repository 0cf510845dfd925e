use Rattle.ps_game.specs.Regions.{has, move_at}
use Rattle.ps_measure.specs.Inner.Filling.{AreRanked}
use Rattle.ps_measure.proofs.measuring.raise_each.Given as goal

abbrev pub invariant-loop-place : goal.invariant-loop-place
invariant-loop-place g l =
    AreRanked l.remaining.game l.remaining.player (has l.remaining.region) (move_at l.remaining.strategy) l.priorities
    l.table l.place l.raises
