use Rattle.ps_game.proofs.Priorities.{ListsBelow}
use Rattle.ps_game.proofs.ranking.priorities_of.Given as goal

abbrev pub invariant-loop-vertex : goal.invariant-loop-vertex
invariant-loop-vertex g l = ListsBelow (g.A.Arena.game l.arena) l.parity l.vertex l.priorities.items
