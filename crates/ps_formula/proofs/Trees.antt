-- The formulas of a table: each node is its operator, applied to the formulas of its operands.
use Rattle.std.proofs.Common.{◌≡◌, ℕ, ◌<◌, false, List, ◌++◌, length, Some}
use Rattle.std.proofs.Common.{refl, ap, sym, ◌∙◌, arith, take, drop}
use Rattle.std.proofs.lemmas.List.{get_or_append_left, length-take, take-append-drop}
use Rattle.std.specs.List.{slice_get}
use Rattle.ps_formula.specs.declared.node.Node.{Node}
use Rattle.ps_formula.specs.declared.node.Node.TheVariants.{Constant, Proposition, Not, And, Or, Implies, Iff, Next}
use Rattle.ps_formula.specs.declared.node.Node.TheVariants.{Until, Release, WeakUntil, Finally, Globally}
use Rattle.ps_formula.specs.Formulas.{Formula, constant, not_of, and_of, or_of, implies, iff, next, until}
use Rattle.ps_formula.specs.Formulas.{release, weak_until, finally, globally}
use Rattle.ps_formula.proofs.AnyTrees.{length-trees, tree-append, tree-node, trees-append}
use Rattle.ps_formula.specs.Formulas.{IsOver, formula_at, formula_of, formulas_of, nth}

front : (known more : List Formula) (k : ℕ) → k < length known → nth (known ++ more) k ≡ nth known k
front known more k within = get_or_append_left known more (constant false) k within

front_two : (make : Formula → Formula → Formula) (known more : List Formula) (j k : ℕ) →
    (j < length known) × (k < length known) →
    make (nth (known ++ more) j) (nth (known ++ more) k) ≡ make (nth known j) (nth known k)
front_two make known more j k within = rw (front known more j within.0, front known more k within.1)

-- the formula of a node depends on the formulas of its operands alone
pub formula_of-front : (known more : List Formula) (node : Node) → IsOver (length known) node →
    formula_of (known ++ more) node ≡ formula_of known node
formula_of-front known more (Constant b) over = refl
formula_of-front known more (Proposition p) over = refl
formula_of-front known more (Not f) over = ap not_of (front known more f over)
formula_of-front known more (And f g) over = front_two and_of known more f g over
formula_of-front known more (Or f g) over = front_two or_of known more f g over
formula_of-front known more (Implies f g) over = front_two implies known more f g over
formula_of-front known more (Iff f g) over = front_two iff known more f g over
formula_of-front known more (Next f) over = ap next (front known more f over)
formula_of-front known more (Until f g) over = front_two until known more f g over
formula_of-front known more (Release f g) over = front_two release known more f g over
formula_of-front known more (WeakUntil f g) over = front_two weak_until known more f g over
formula_of-front known more (Finally f) over = ap finally (front known more f over)
formula_of-front known more (Globally f) over = ap globally (front known more f over)

-- each node of a table has as its formula its operator, applied to the formulas of its operands
pub formula_at-node : (nodes : List Node) (k : ℕ) (node : Node) →
    ((j : ℕ) (n : Node) → slice_get nodes j ≡ Some n → IsOver j n) → slice_get nodes k ≡ Some node →
    formula_at nodes k ≡ formula_of (formulas_of nodes) node
unfolding formulas_of
formula_at-node nodes k node over at =
    tree-node (constant false) formula_of IsOver formula_of-front nodes k node over at

pub length-formulas_of : (nodes : List Node) → length (formulas_of nodes) ≡ length nodes
unfolding formulas_of
length-formulas_of nodes = length-trees (constant false) formula_of IsOver formula_of-front nodes

-- more nodes have more formulas, behind those that are there
pub formulas_of-append : (nodes more : List Node) →
    (rest : List Formula) × (formulas_of (nodes ++ more) ≡ formulas_of nodes ++ rest)
unfolding formulas_of
formulas_of-append nodes more = trees-append (constant false) formula_of IsOver formula_of-front nodes more

-- formulas stay if a table grows
pub formula_at-append : (nodes more : List Node) (k : ℕ) → k < length nodes →
    formula_at (nodes ++ more) k ≡ formula_at nodes k
unfolding formulas_of
formula_at-append nodes more k within =
    tree-append (constant false) formula_of IsOver formula_of-front nodes more k within

-- the formula of a node depends on the nodes up to it alone
pub formula_at-take : (nodes : List Node) (n k : ℕ) → k < n → k < length nodes →
    formula_at (take n nodes) k ≡ formula_at nodes k
formula_at-take nodes n k low within =
    let whole : take n nodes ++ drop n nodes ≡ nodes = take-append-drop n nodes in
    let long : k < length (take n nodes) = omega (arith, length-take n nodes) in
    sym (formula_at-append (take n nodes) (drop n nodes) k long) ∙ ap (λ (l : List Node). formula_at l k) whole
