use Rattle.std.proofs.Common.{◌≡◌, ℕ, ◌<◌, Some, length}
use Rattle.std.specs.List.{Contains, slice_get}
use Rattle.ps_formula.specs.declared.normal_node.NormalNode.TheVariants.{Until}
use Rattle.ps_tableau.specs.Needs.{IsNeeded}
use Rattle.ps_tableau.proofs.needs.untils_of.Given as goal

abbrev pub invariant-loop-index : goal.invariant-loop-index
invariant-loop-index l = record {
  each : (k f g : ℕ) → k < l.index → slice_get l.nodes k ≡ Some (Until f g) → IsNeeded l.needed k →
      Contains l.untils.items k;
  within : (k : ℕ) → Contains l.untils.items k → k < length l.nodes;
}
