use Rattle.std.proofs.Common.{◌≡◌, ℕ, None, Option, ap, sym, ◌∙◌}
use Rattle.ps_diagram.specs.Composing.{IsLetterOfTruths}
use Rattle.ps_diagram.specs.Leaves.{chosen}
use Rattle.ps_diagram.specs.Table.{leaf_of}
use Rattle.ps_diagram.proofs.TreeOperations.Composing.{bits_before}
use Rattle.ps_diagram.proofs.NodeTables.KnownLemmas.{keeps_trans}
use Rattle.ps_diagram.proofs.TreeOperations.Truths.{leaf_kept}
use Rattle.ps_label.specs.Truth.{is_in}
use Rattle.ps_product.proofs.CircuitFunctions.GroupLemmas.{ok_map}
use Rattle.ps_tableau_product.proofs.FairProducts.StepLemmas.{are_served}
use Rattle.ps_tableau_product.proofs.TableauStates.ViewLemmas.{tell_kept}
use Rattle.ps_tableau_product.proofs.views.View.served.Goals as goal

pub returns-clause-served : goal.returns-clause-served
returns-clause-served c =
    let old = c.args.self.now in
    let nodes = old.nodes.items in
    let t = c.choose.new.self in
    let composed = c.in_ok-composed.composed in
    let none = c.in_ok-none.none in
    let first = c.in_ok-composed.ensures in
    let second = c.in_ok-none.ensures in
    let third = c.in_ok-node.ensures in
    let later = keeps_trans second.keeps third.keeps in
    let all = keeps_trans first.keeps later in
    let tell = tell_kept all c.requires.view in
    let leaf : (x whole : ℕ) → IsLetterOfTruths t nodes x whole →
    leaf_of t composed x ≡ leaf_of c.args.guards.now c.args.guard whole = λ x whole h.
    leaf_kept x later first.held ∙ first.leaf x whole
    (rw c.deref.ensures.value (bits_before nodes all c.requires.view.held x (λ p. is_in p whole) h)) in
    let composed_same : (x : ℕ) → leaf_of c.none.new.self composed x ≡ leaf_of t composed x = λ x.
    sym (leaf_kept x third.keeps (second.keeps.held composed first.held)) in
    let classes_same : (x : ℕ) → leaf_of c.none.new.self old.classes x ≡ leaf_of t old.classes x = λ x.
    sym (leaf_kept x third.keeps (second.keeps.held old.classes
    (first.keeps.held old.classes c.requires.view.classes_held))) in
    let is : (x : ℕ) → leaf_of t c.in_ok-node.node x ≡ chosen (leaf_of t composed x) (leaf_of t old.classes x) None =
    λ x. third.leaf x
    ∙ ap (λ (o : Option ℕ). chosen o (leaf_of c.none.new.self old.classes x) (leaf_of c.none.new.self none x))
    (composed_same x)
    ∙ ap (λ (o : Option ℕ). chosen (leaf_of t composed x) o (leaf_of c.none.new.self none x)) (classes_same x)
    ∙ ap (λ (o : Option ℕ). chosen (leaf_of t composed x) (leaf_of t old.classes x) o) (second.leaf x) in
    ok_map _ _ c.leaves.result c.leaves.ensures (λ found leaves.
    are_served composed c.args.guards.now c.args.guard tell leaf is leaves)
