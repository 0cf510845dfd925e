use Rattle.std.proofs.Common.{◌≡◌, ◌<◌, ℕ, Some}
use Rattle.std.specs.Prelude.{Contains, slice_get}
use Rattle.ps_product.specs.Words.{HasGrown}
use Rattle.ps_tableau_product.specs.declared.joint.JointEdge.{JointEdge}
use Rattle.ps_tableau_product.proofs.joint.add_priorities.Given as goal

abbrev pub invariant-loop-edge : goal.invariant-loop-edge
invariant-loop-edge l = record {
  grown : HasGrown l.fn.priorities l.priorities;
  has : (k : ℕ) (e : JointEdge) → k < l.edge-index → slice_get l.row k ≡ Some e → Contains l.priorities e.priority;
}
