use Rattle.std.proofs.Common.{◌≡◌, []}
use Rattle.ps_referee.specs.Inner.Building.{claims}
use Rattle.ps_referee.proofs.building.claim_of.Given as goal

-- the entries state the solution's winners and moves for the vertices that the program's loop has visited
abbrev pub invariant-loop-vertex : goal.invariant-loop-vertex
invariant-loop-vertex g l =
    l.entries ≡ claims (g.A.Arena.game l.solution.arena.now) l.solution.won.now l.solution.first.now
    l.solution.second.now (λ _. []) l.vertex
