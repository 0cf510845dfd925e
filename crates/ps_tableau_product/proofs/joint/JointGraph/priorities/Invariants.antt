use Rattle.std.proofs.Common.{◌≡◌, ◌<◌, ℕ, Some}
use Rattle.std.specs.Prelude.{Contains, slice_get}
use Rattle.ps_tableau_product.specs.JointGraphs.{joint_row}
use Rattle.ps_tableau_product.specs.declared.joint.JointEdge.{JointEdge}
use Rattle.ps_tableau_product.proofs.joint.JointGraph.priorities.Given as goal

abbrev pub invariant-loop-row : goal.invariant-loop-row
invariant-loop-row l = (v k : ℕ) (e : JointEdge) → v < l.row-index →
    slice_get (joint_row l.self.rows v) k ≡ Some e → Contains l.priorities e.priority
