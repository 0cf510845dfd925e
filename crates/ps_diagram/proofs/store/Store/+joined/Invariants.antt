use Rattle.std.proofs.Common.{suc, ◌-◌, ◌*◌}
use Rattle.ps_diagram.specs.Table.{Keeps}
use Rattle.ps_diagram.proofs.TreesFromData.Halving.{ArePartNodes}
use Rattle.ps_diagram.proofs.store.Store.+joined.Given as goal

abbrev pub decreases-joined : goal.decreases-joined
decreases-joined l = (l.self.now.propositions - l.first) * 2

abbrev pub decreases-parts : goal.decreases-parts
decreases-parts l = suc ((l.self.now.propositions - l.first - 1) * 2)

abbrev pub invariant-parts-rest : goal.invariant-parts-rest
invariant-parts-rest l = record {
  keeps : Keeps l.fn.self l.self;
  parts : ArePartNodes l.fn.self l.self l.first l.none (l.fn.self.propositions - l.first) l.nodes l.rest l.made.items;
}
