-- What is needed stays needed.
use Rattle.std.proofs.Common.{ℕ, ◌≤◌, Bool, List, arith}
use Rattle.ps_formula.specs.NormalForms.{IsNormalOver}
use Rattle.ps_formula.specs.declared.normal_node.NormalNode.{NormalNode}
use Rattle.ps_formula.specs.declared.normal_node.NormalNode.TheVariants.{Constant, Proposition, Negated, And, Or, Next}
use Rattle.ps_formula.specs.declared.normal_node.NormalNode.TheVariants.{Until, Release}
use Rattle.ps_tableau.specs.Needs.{IsNeeded, NeedsOperands}

pub over_more : (node : NormalNode) (low high : ℕ) → low ≤ high → IsNormalOver low node → IsNormalOver high node
over_more (Constant b) low high le over = over
over_more (Proposition p) low high le over = over
over_more (Negated p) low high le over = over
over_more (And f g) low high le over = let x = over.0 in let y = over.1 in (omega arith, omega arith)
over_more (Or f g) low high le over = let x = over.0 in let y = over.1 in (omega arith, omega arith)
over_more (Next f) low high le over = omega arith
over_more (Until f g) low high le over = let x = over.0 in let y = over.1 in (omega arith, omega arith)
over_more (Release f g) low high le over = let x = over.0 in let y = over.1 in (omega arith, omega arith)

pub needs_more : (node : NormalNode) (old new : List Bool) → ((k : ℕ) → IsNeeded old k → IsNeeded new k) →
    NeedsOperands old node → NeedsOperands new node
needs_more (Constant b) old new more h = h
needs_more (Proposition p) old new more h = h
needs_more (Negated p) old new more h = h
needs_more (And f g) old new more h = (more f h.0, more g h.1)
needs_more (Or f g) old new more h = (more f h.0, more g h.1)
needs_more (Next f) old new more h = more f h
needs_more (Until f g) old new more h = (more f h.0, more g h.1)
needs_more (Release f g) old new more h = (more f h.0, more g h.1)
