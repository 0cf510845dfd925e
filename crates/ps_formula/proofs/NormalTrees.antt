-- The formulas of a table in normal form: each node is its operator, applied to the formulas of its operands.
use Rattle.std.proofs.Common.{◌≡◌, ℕ, ◌<◌, false, List, ◌++◌, length, Some, refl, ap, sym, subst, ◌∙◌}
use Rattle.std.proofs.lemmas.List.{get_or_append_left}
use Rattle.std.specs.List.{slice_get}
use Rattle.ps_formula.proofs.AnyTrees.{length-trees, tree-append, tree-node, trees-append}
use Rattle.ps_formula.specs.declared.normal_node.NormalNode.{NormalNode}
use Rattle.ps_formula.specs.declared.normal_node.NormalNode.TheVariants.{Constant, Proposition, Negated, And, Or, Next}
use Rattle.ps_formula.specs.declared.normal_node.NormalNode.TheVariants.{Until, Release}
use Rattle.ps_formula.specs.NormalForms.{NormalFormula, truth, both, either, after, reaches, keeps, nth_normal}
use Rattle.ps_formula.specs.NormalForms.{IsNormalOver, IsNormalTable, normal_formula_at, normal_formula_of}
use Rattle.ps_formula.specs.NormalForms.{normal_formulas_of}

front : (known more : List NormalFormula) (k : ℕ) → k < length known → nth_normal (known ++ more) k ≡ nth_normal known k
front known more k within = get_or_append_left known more (truth false) k within

front_two : (make : NormalFormula → NormalFormula → NormalFormula) (known more : List NormalFormula) (j k : ℕ) →
    (j < length known) × (k < length known) →
    make (nth_normal (known ++ more) j) (nth_normal (known ++ more) k) ≡ make (nth_normal known j) (nth_normal known k)
front_two make known more j k within = rw (front known more j within.0, front known more k within.1)

pub normal_formula_of-front : (known more : List NormalFormula) (node : NormalNode) → IsNormalOver (length known) node →
    normal_formula_of (known ++ more) node ≡ normal_formula_of known node
normal_formula_of-front known more (Constant b) over = refl
normal_formula_of-front known more (Proposition p) over = refl
normal_formula_of-front known more (Negated p) over = refl
normal_formula_of-front known more (And f g) over = front_two both known more f g over
normal_formula_of-front known more (Or f g) over = front_two either known more f g over
normal_formula_of-front known more (Next f) over = ap after (front known more f over)
normal_formula_of-front known more (Until f g) over = front_two reaches known more f g over
normal_formula_of-front known more (Release f g) over = front_two keeps known more f g over

-- each node of a table has as its formula its operator, applied to the formulas of its operands
pub normal_formula_at-node : (nodes : List NormalNode) (k : ℕ) (node : NormalNode) →
    ((j : ℕ) (n : NormalNode) → slice_get nodes j ≡ Some n → IsNormalOver j n) → slice_get nodes k ≡ Some node →
    normal_formula_at nodes k ≡ normal_formula_of (normal_formulas_of nodes) node
unfolding normal_formulas_of
normal_formula_at-node nodes k node over at =
    tree-node (truth false) normal_formula_of IsNormalOver normal_formula_of-front nodes k node over at

pub length-normal_formulas_of : (nodes : List NormalNode) → length (normal_formulas_of nodes) ≡ length nodes
unfolding normal_formulas_of
length-normal_formulas_of nodes =
    length-trees (truth false) normal_formula_of IsNormalOver normal_formula_of-front nodes

-- formulas stay if a table grows
pub normal_formula_at-append : (nodes more : List NormalNode) (k : ℕ) → k < length nodes →
    normal_formula_at (nodes ++ more) k ≡ normal_formula_at nodes k
unfolding normal_formulas_of
normal_formula_at-append nodes more k within =
    tree-append (truth false) normal_formula_of IsNormalOver normal_formula_of-front nodes more k within

-- the formula of a node over a table stays if the table grows
pub normal_formula_of-append : (nodes more : List NormalNode) (node : NormalNode) → IsNormalOver (length nodes) node →
    normal_formula_of (normal_formulas_of (nodes ++ more)) node ≡ normal_formula_of (normal_formulas_of nodes) node
unfolding normal_formulas_of
normal_formula_of-append nodes more node over =
    let r = trees-append (truth false) normal_formula_of IsNormalOver normal_formula_of-front nodes more in
    let known = normal_formulas_of nodes in
    let long : IsNormalOver (length known) node =
    subst (λ n. IsNormalOver n node) (sym (length-normal_formulas_of nodes)) over in
    rw r.1 (normal_formula_of-front known r.0 node long)

-- the formula of an added node is made from the formulas that the table had
pub added-tree : (old more new : List NormalNode) (node : NormalNode) (index : ℕ) → IsNormalTable new →
    slice_get new index ≡ Some node → new ≡ old ++ more → IsNormalOver (length old) node →
    normal_formula_at new index ≡ normal_formula_of (normal_formulas_of old) node
added-tree old more new node index table there is over =
    normal_formula_at-node new index node table.earlier there
    ∙ ap (λ (l : List NormalNode). normal_formula_of (normal_formulas_of l) node) is
    ∙ normal_formula_of-append old more node over
