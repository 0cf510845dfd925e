use Rattle.ps_zielonka.specs.Inner.Stacks.{IsStack, IsDeep, steps_of}
use Rattle.ps_zielonka.proofs.nest.Nest.solve.Given as goal

abbrev pub invariant-steps : goal.invariant-steps
invariant-steps g l =
    record {
      stack : IsStack (g.A.Arena.game l.edges.arena.now) l.self;
      deep : IsDeep (g.A.Arena.game l.edges.arena.now) l.self;
    }

abbrev pub decreases-steps : goal.decreases-steps
decreases-steps g l = steps_of l.self
