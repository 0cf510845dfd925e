use Rattle.std.proofs.Common.{◌≡◌}
use Rattle.ps_referee.specs.Inner.Building.{claims, winner_row}
use Rattle.ps_referee.proofs.building.entries_of.Given as goal

-- the entries state the solution's winners, moves and counts for the vertices that the program's loop has visited
abbrev pub invariant-loop-vertex : goal.invariant-loop-vertex
invariant-loop-vertex g l =
    l.entries ≡ claims (g.A.Arena.game l.solution.arena.now) l.solution.won.now l.solution.first.now
    l.solution.second.now
    (winner_row l.solution.won.now l.first_rows l.second_rows) l.vertex
