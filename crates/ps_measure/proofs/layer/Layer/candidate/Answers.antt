use Rattle.std.proofs.Common.{sym}
use Rattle.ps_measure.proofs.LinksOfEdges.Roots.{member_within}
use Rattle.ps_measure.proofs.layer.Layer.candidate.Goals as goal

pub returns-in-Some-clause-within : goal.returns-in-Some-clause-within
returns-in-Some-clause-within g c =
    let below = rw c.in-Some.is at (rw (← c.self.view_is) at c.requires) in
    rw (← c.self.view_is) (member_within c.args.number (rw c.in-Some.is at c.self.invariant.group) below
    (sym c.source.ensures))
