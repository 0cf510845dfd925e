use Rattle.ps_diagram.proofs.NodeTables.Cells.{leaves_after}
use Rattle.ps_diagram.proofs.interning.Cells.place_by_hash.Goals as goal

pub invariant_of-self : goal.invariant_of-self
invariant_of-self c = leaves_after c.place_of.result c.self.inside.leaves.items c.place_of.ensures c.self.invariant
