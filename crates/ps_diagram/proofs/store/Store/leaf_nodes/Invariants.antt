use Rattle.ps_diagram.specs.Inner.Rows.{AreLeafNodes}
use Rattle.ps_diagram.specs.Table.{Keeps}
use Rattle.ps_diagram.proofs.store.Store.leaf_nodes.Given as goal

abbrev pub invariant-loop-leaf : goal.invariant-loop-leaf
invariant-loop-leaf l = record {
  keeps : Keeps l.fn.self l.self;
  nodes_of : AreLeafNodes l.self l.leaves l.leaf-index l.nodes.items;
}
