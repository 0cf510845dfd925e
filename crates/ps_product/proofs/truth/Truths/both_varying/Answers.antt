use Rattle.std.proofs.Common.{◌≡◌, ◌^◌, ◌<◌, ◌∙◌, ℕ, Option, ap, refl}
use Rattle.std.specs.Prelude.{if◌then◌else◌, is_some}
use Rattle.ps_diagram.specs.Labels.{one_where}
use Rattle.ps_diagram.specs.Leaves.{chosen}
use Rattle.ps_diagram.specs.Table.{leaf_of}
use Rattle.ps_product.specs.Truths.{IsVarying, with_sign}
use Rattle.ps_product.proofs.CircuitFunctions.TruthLemmas.{both_chosen, chosen_one}
use Rattle.ps_product.proofs.truth.Truths.both_varying.Goals as goal
use Rattle.ps_product.proofs.truth.Truths.both_varying.Goals.{In_ok-node, then-other_negated, else-other_negated}
use Rattle.ps_product.proofs.truth.Truths.both_varying.Goals.{then-one_negated, else-one_negated}

rest_leaf : (c : In_ok-node) (letter : ℕ) →
    leaf_of c.self.inside.store c.if-other_negated.rest letter ≡ one_where c.args.other_negated
rest_leaf c letter = elim c.if-other_negated.branch [
  | then-other_negated w ↦ rw (w.rest-is, w.if-other_negated.true) (c.self.invariant.one_leaf letter)
  | else-other_negated w ↦ rw (w.rest-is, w.if-other_negated.false) (c.self.invariant.none_leaf letter)
]

node_leaf : (c : In_ok-node) (letter : ℕ) → leaf_of c.choose.new.self c.in_ok-node.node letter ≡
    chosen (leaf_of c.self.inside.store c.args.one letter)
    (if c.args.one_negated then one_where c.args.other_negated else leaf_of c.self.inside.store c.args.other letter)
    (if c.args.one_negated then leaf_of c.self.inside.store c.args.other letter else one_where c.args.other_negated)
node_leaf c letter = c.in_ok-node.ensures.leaf letter ∙ elim c.if-one_negated.branch [
  | then-one_negated w ↦ rw (w.high-is, w.if-one_negated.true, rest_leaf c letter) refl
  | else-one_negated w ↦ rw (w.high-is, w.if-one_negated.false, rest_leaf c letter) refl
]

pub truth_of-requires-clause-leaves : goal.truth_of-requires-clause-leaves
truth_of-requires-clause-leaves c = λ letter.
    let held : IsVarying c.self.inside.store c.args.other = rw (← c.self.view_is) at c.requires.other in
    let one =
    chosen_one (leaf_of c.self.inside.store c.args.one letter) (leaf_of c.self.inside.store c.args.other letter)
    c.args.one_negated c.args.other_negated (held.leaves letter) in
    (one.0, node_leaf c letter ∙ one.1)

pub returns : goal.returns
returns c = rw (← c.self.view_is) (record {
  keeps = c.choose.ensures.keeps;
  is_truth = c.truth_of.ensures.is_truth;
  truth = λ letter lt.
      let low : letter < 2 ^ c.choose.new.self.propositions = rw (← c.choose.ensures.keeps.propositions) at lt in
      c.truth_of.ensures.truth letter low
      ∙ ap (λ (o : Option ℕ). with_sign c.args.other_negated (is_some o))
      (node_leaf (goal.at.returns c).In_ok-node letter)
      ∙ both_chosen (leaf_of c.self.inside.store c.args.one letter) (leaf_of c.self.inside.store c.args.other letter)
      c.args.one_negated c.args.other_negated;
})
