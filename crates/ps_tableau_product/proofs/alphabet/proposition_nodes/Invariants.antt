use Rattle.std.proofs.Common.{◌≡◌, length}
use Rattle.ps_diagram.specs.Table.{Keeps}
use Rattle.ps_tableau_product.specs.Inner.Alphabets.{AreBitNodes}
use Rattle.ps_tableau_product.proofs.alphabet.proposition_nodes.Given as goal

abbrev pub invariant-loop-p : goal.invariant-loop-p
invariant-loop-p l = record {
  keeps : Keeps l.fn.store l.store;
  one_each : length l.nodes.items ≡ l.p;
  nodes : AreBitNodes l.store l.fn.store.propositions l.nodes.items;
}
