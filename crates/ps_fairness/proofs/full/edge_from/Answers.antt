use Rattle.std.proofs.Common.{ℕ, arith, subst}
use Rattle.ps_fairness.specs.Inner.Inside.{IsWanted}
use Rattle.ps_fairness.proofs.full.edge_from.Goals as goal

pub returns-clause-none : goal.returns-clause-none
returns-clause-none g c = λ e same wanted.
    let moved = subst (λ (v : ℕ). IsWanted (g.G.Graph.graph c.args.graph.now) (g.G.Marked.marks c.args.graph.now)
    c.args.components.now c.args.number c.args.mark (record { vertex = v; slot = e.slot })) same wanted in
    c.loop-slot.invariant e.slot
    (omega (arith, moved.inside.edge.at, c.degree-slot-end.ensures, c.loop-slot-test.false)) moved
