use Rattle.ps_tableau_product.specs.Inner.Joining.{IsJointMadeUpTo, IsVisit, joint_draft, pairing_of, visited}
use Rattle.ps_tableau_product.proofs.joining.JointDraft.row.Given as goal

abbrev pub invariant-loop-k : goal.invariant-loop-k
invariant-loop-k l = record {
  made : IsJointMadeUpTo (pairing_of l.plan) (joint_draft l.fn.self) (joint_draft l.self) (visited l.visit) l.row.items
      l.k;
  visit : IsVisit l.plan (joint_draft l.self) l.alphabet l.visit;
}
