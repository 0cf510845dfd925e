use Rattle.std.proofs.Common.{◌≤◌}
use Rattle.ps_diagram.specs.Table.{IsNode, Keeps, tree_of}
use Rattle.ps_diagram.specs.Inner.Splitting.{IsProduct}
use Rattle.ps_diagram.proofs.store.Store.path.Given as goal

abbrev pub invariant-loop-proposition : goal.invariant-loop-proposition
invariant-loop-proposition l = record {
  from : l.level ≤ l.proposition;
  keeps : Keeps l.fn.self l.self;
  held : IsNode l.self l.node;
  leaf : IsProduct l.fn.self.propositions l.proposition l.product (tree_of l.fn.self l.fn.hit)
      (tree_of l.fn.self l.miss) (tree_of l.self l.node);
}
