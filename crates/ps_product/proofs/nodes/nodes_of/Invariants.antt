use Rattle.std.proofs.Common.{◌≡◌, length}
use Rattle.ps_diagram.specs.Table.{Keeps}
use Rattle.ps_product.specs.Groups.{StandFor}
use Rattle.ps_product.proofs.nodes.nodes_of.Given as goal

abbrev pub invariant-loop-p : goal.invariant-loop-p
invariant-loop-p l = record {
  keeps : Keeps l.fn.store l.store;
  one_each : length l.nodes.items ≡ l.p;
  nodes : StandFor l.store l.list l.outputs l.nodes.items;
}
