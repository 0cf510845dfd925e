use Rattle.ps_measure.specs.Inner.Groups.{candidate_in}
use Rattle.ps_measure.proofs.LinksOfEdges.Roots.{RootsAmong}
use Rattle.ps_measure.proofs.layer.Layer.roots.Given as goal

abbrev pub invariant-loop-number : goal.invariant-loop-number
invariant-loop-number g l = RootsAmong l.self.low (candidate_in l.self.members l.self.place) l.roots.items l.number
