use Rattle.std.proofs.Common.{◌≡◌, ℕ, Bool, None}
use Rattle.ps_diagram.specs.Tree.{leaf_at}
use Rattle.ps_diagram.specs.Table.{IsNode, Keeps, tree_of}
use Rattle.ps_diagram.proofs.TreesFromData.Alone.{IsAlone}
use Rattle.ps_diagram.proofs.store.Store.of_letter.Given as goal

abbrev pub invariant-loop-proposition : goal.invariant-loop-proposition
invariant-loop-proposition l = record {
  keeps : Keeps l.fn.self l.self;
  none_held : IsNode l.self l.none;
  held : IsNode l.self l.node;
  nothing : (f : ℕ → Bool) → leaf_at (tree_of l.self l.none) f ≡ None;
  alone : IsAlone l.self.propositions l.proposition l.letter (tree_of l.self l.node);
}
