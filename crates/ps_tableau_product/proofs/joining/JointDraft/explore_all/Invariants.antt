use Rattle.std.proofs.Common.{◌-◌}
use Rattle.ps_tableau_product.specs.Inner.Alphabets.{IsAlphabet}
use Rattle.ps_tableau_product.specs.Inner.Joining.{ExploresJoint, joint_draft, pairing_of}
use Rattle.ps_tableau_product.proofs.joining.JointDraft.explore_all.Given as goal

abbrev pub invariant-loop-vertex : goal.invariant-loop-vertex
invariant-loop-vertex l = record {
  goes_on : ExploresJoint (pairing_of l.plan) (joint_draft l.fn.self) (joint_draft l.self) l.vertex;
  alphabet : IsAlphabet l.plan l.self.states.tableau.guards l.alphabet;
}

-- the number of the next vertex to be explored grows with each iteration, and is always less than 2^64
abbrev pub decreases-loop-vertex : goal.decreases-loop-vertex
decreases-loop-vertex l = 18446744073709551616 - l.vertex
