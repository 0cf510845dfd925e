use Rattle.ps_fairness.proofs.InsideLemmas.{reached_inside, walk_back}
use Rattle.ps_fairness.proofs.cycles.go_on.Goals as goal

pub unreachable-requires : goal.unreachable-requires
unreachable-requires g c =
    let none = rw c.in_default.is at c.in_ok-trail.ensures.none in
    none (reached_inside c.requires.components c.args.inner.now.number c.args.from c.args.to c.requires.from
    c.requires.to)

pub append_trail-requires : goal.append_trail-requires
append_trail-requires g c =
    let trail = rw c.in-Some.is at c.in_ok-trail.ensures.found in
    rw c.deref.ensures.value (walk_back (g.G.Graph.graph c.args.inner.now.graph.now) c.args.inner.now.components.now
    c.args.inner.now.number c.in-Some.trail.items c.args.to c.args.from trail)
