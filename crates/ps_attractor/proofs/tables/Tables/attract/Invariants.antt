use Rattle.std.proofs.Common.{◌+◌, ◌-◌, ◌≤◌, length}
use Rattle.ps_attractor.specs.Tables.{FitsGame}
use Rattle.ps_attractor.specs.Steps.{Reaching, From, free_count}
use Rattle.ps_attractor.proofs.tables.Tables.attract.Given as goal

abbrev pub invariant-loop-place : goal.invariant-loop-place
invariant-loop-place g l = record {
  fits : FitsGame (g.A.Arena.game l.edges.arena.now) l.self;
  after : l.aim.begin ≤ l.place;
  inside : l.place ≤ length l.self.trail;
  reaching : Reaching (g.A.Arena.game l.edges.arena.now) l.aim l.initial.self l.self (From l.place);
}

abbrev pub decreases-loop-place : goal.decreases-loop-place
decreases-loop-place g l = free_count l.aim l.self + length l.self.trail - l.place
