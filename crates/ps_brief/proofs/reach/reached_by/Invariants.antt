use Rattle.ps_diagram.specs.Table.{Keeps}
use Rattle.ps_brief.specs.Inner.Reaching.{IsReachedUpTo}
use Rattle.ps_brief.proofs.reach.reached_by.Given as goal

abbrev pub invariant-loop-turn : goal.invariant-loop-turn
invariant-loop-turn l = record {
  keeps : Keeps l.fn.store l.store;
  up : IsReachedUpTo l.plan l.store l.reached l.turn;
}
