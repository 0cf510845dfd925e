use Rattle.std.proofs.Common.{◌-◌, ◌≤◌, length}
use Rattle.ps_tableau_product.specs.Inner.Alphabets.{AreBitNodes}
use Rattle.ps_tableau_product.proofs.alphabet.whole_nodes.Given as goal

abbrev pub invariant-loop-none : goal.invariant-loop-none
invariant-loop-none l = record {
  few : length l.nodes.items ≤ 64;
  begun : l.fn.store.propositions ≤ length l.nodes.items;
  nodes : AreBitNodes l.store l.fn.store.propositions l.nodes.items;
}

abbrev pub decreases-loop-none : goal.decreases-loop-none
decreases-loop-none l = 64 - length l.nodes.items
