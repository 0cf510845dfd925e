use Rattle.std.proofs.Common.{◌≡◌, ◌-◌, length}
use Rattle.ps_product.specs.Inner.Exploring.{IsExplored}
use Rattle.ps_product.specs.Inner.Plans.{setting_of}
use Rattle.ps_product.proofs.exploring.Plan.search.Given as goal

abbrev pub invariant-loop-vertex : goal.invariant-loop-vertex
invariant-loop-vertex l = record {
  explored : IsExplored (setting_of l.self) l.draft l.vertex;
  evaluator : l.evaluator ≡ l.self.circuit.now;
  store : l.store.propositions ≡ length l.self.automaton.now.names;
}

-- the number of the next vertex to be explored grows with each iteration, and is always less than 2^64
abbrev pub decreases-loop-vertex : goal.decreases-loop-vertex
decreases-loop-vertex l = 18446744073709551616 - l.vertex
