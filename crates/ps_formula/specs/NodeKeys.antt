-- Two nodes that the equality test takes for equal are the same node.
use Rattle.std.proofs.Common.{◌≡◌, ℕ, Bool, true, false, refl, ap, rules, ◌&&◌, ◌==◌}
use Rattle.std.proofs.lemmas.Bool.{eqb-true}
use Rattle.ps_formula.specs.declared.node.Node.{Node}
use Rattle.ps_formula.specs.declared.node.Node.TheVariants.{Constant, Proposition, Not, And, Or, Implies, Iff, Next}
use Rattle.ps_formula.specs.declared.node.Node.TheVariants.{Until, Release, WeakUntil, Finally, Globally}
use Rattle.ps_formula.specs.declared.normal_node.NormalNode.{NormalNode}
use Rattle.ps_formula.specs.declared.normal_node.NormalNode.TheVariants as normal
use Rattle.ps_formula.specs.contracts.node.NodePartialEq.TheImpl as node_eq
use Rattle.ps_formula.specs.contracts.normal_node.NormalNodePartialEq.TheImpl as normal_eq

apart : {A : Type 0} → false ≡ true → A
apart e = cc

-- a conjunction is true only if both of its operands are true
both : (a b : Bool) → (a && b) ≡ true → (a ≡ true) × (b ≡ true)
both a b e = search rules

same_two : {A : Type 0} (f g h k : ℕ) (make : ℕ → ℕ → A) → ((f == h) && (g == k)) ≡ true → make f g ≡ make h k
same_two f g h k make e =
    let two = both (f == h) (g == k) e in
    let first : f ≡ h = eqb-true f h two.0 in
    let second : g ≡ k = eqb-true g k two.1 in
    cc

pub same_node : (x y : Node) → (node_eq.eq-value).it x y ≡ true → x ≡ y
same_node (Constant true) (Constant true) e = refl
same_node (Constant false) (Constant false) e = refl
same_node (Proposition f) (Proposition h) e = ap Proposition (eqb-true f h e)
same_node (Not f) (Not h) e = ap Not (eqb-true f h e)
same_node (Next f) (Next h) e = ap Next (eqb-true f h e)
same_node (Finally f) (Finally h) e = ap Finally (eqb-true f h e)
same_node (Globally f) (Globally h) e = ap Globally (eqb-true f h e)
same_node (And f g) (And h k) e = same_two f g h k And e
same_node (Or f g) (Or h k) e = same_two f g h k Or e
same_node (Implies f g) (Implies h k) e = same_two f g h k Implies e
same_node (Iff f g) (Iff h k) e = same_two f g h k Iff e
same_node (Until f g) (Until h k) e = same_two f g h k Until e
same_node (Release f g) (Release h k) e = same_two f g h k Release e
same_node (WeakUntil f g) (WeakUntil h k) e = same_two f g h k WeakUntil e
same_node _ _ e = apart e

pub same_normal_node : (x y : NormalNode) → (normal_eq.eq-value).it x y ≡ true → x ≡ y
same_normal_node (normal.Constant true) (normal.Constant true) e = refl
same_normal_node (normal.Constant false) (normal.Constant false) e = refl
same_normal_node (normal.Proposition f) (normal.Proposition h) e = ap normal.Proposition (eqb-true f h e)
same_normal_node (normal.Negated f) (normal.Negated h) e = ap normal.Negated (eqb-true f h e)
same_normal_node (normal.Next f) (normal.Next h) e = ap normal.Next (eqb-true f h e)
same_normal_node (normal.And f g) (normal.And h k) e = same_two f g h k normal.And e
same_normal_node (normal.Or f g) (normal.Or h k) e = same_two f g h k normal.Or e
same_normal_node (normal.Until f g) (normal.Until h k) e = same_two f g h k normal.Until e
same_normal_node (normal.Release f g) (normal.Release h k) e = same_two f g h k normal.Release e
same_normal_node _ _ e = apart e
