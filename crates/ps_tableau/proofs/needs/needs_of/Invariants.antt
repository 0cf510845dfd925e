use Rattle.std.proofs.Common.{◌≡◌, ℕ, ◌≤◌, Some, length}
use Rattle.std.specs.List.{slice_get}
use Rattle.ps_formula.specs.declared.normal_node.NormalNode.{NormalNode}
use Rattle.ps_tableau.specs.Needs.{IsNeeded, NeedsOperands}
use Rattle.ps_tableau.proofs.needs.needs_of.Given as goal

abbrev pub invariant-loop-index : goal.invariant-loop-index
invariant-loop-index l = record {
  count : length l.needed.items ≡ length l.nodes;
  root : IsNeeded l.needed.items l.root;
  operands : (k : ℕ) (node : NormalNode) → l.index ≤ k → slice_get l.nodes k ≡ Some node →
      IsNeeded l.needed.items k → NeedsOperands l.needed.items node;
}
