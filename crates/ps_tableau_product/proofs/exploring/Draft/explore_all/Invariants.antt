use Rattle.std.proofs.Common.{◌≡◌, ◌-◌, length}
use Rattle.ps_tableau_product.specs.Inner.Exploring.{Explores, draft_data}
use Rattle.ps_tableau_product.specs.Plans.{scene_of}
use Rattle.ps_tableau_product.proofs.exploring.Draft.explore_all.Given as goal

abbrev pub invariant-loop-vertex : goal.invariant-loop-vertex
invariant-loop-vertex l = record {
  goes_on : Explores (scene_of l.plan) (draft_data l.fn.self) (draft_data l.self) l.vertex;
  evaluator : l.evaluator ≡ l.plan.circuit.now;
  store : l.store.propositions ≡ length l.plan.names.now;
}

-- the number of the next vertex to be explored grows with each iteration, and is always less than 2^64
abbrev pub decreases-loop-vertex : goal.decreases-loop-vertex
decreases-loop-vertex l = 18446744073709551616 - l.vertex
