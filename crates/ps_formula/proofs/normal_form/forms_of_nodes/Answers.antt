use Rattle.std.proofs.Common.{◌≡◌, ℕ, ◌+◌, ◌≤◌, ◌++◌, ◌∷◌, [], ap, arith, get_or, length, length-append, subst, sym}
use Rattle.std.proofs.Common.{◌∙◌, false}
use Rattle.std.proofs.lemmas.Option.{slice_get-get_or}
use Rattle.ps_formula.specs.declared.node.Node.TheVariants.{Constant}
use Rattle.ps_formula.specs.Formulas.{Formula, IsOver, formula_of, formulas_of, nth}
use Rattle.ps_formula.specs.Inner.Forms.{AreForms, AreKnown}
use Rattle.ps_formula.proofs.FormLemmas.{known_kept, known_more, known_within}
use Rattle.ps_formula.proofs.Trees.{formula_at-node}
use Rattle.ps_formula.proofs.normal_form.forms_of_nodes.Goals as goal

pub forms_of-requires-clause-over : goal.forms_of-requires-clause-over
forms_of-requires-clause-over c =
    let nodes = c.args.nodes.now in
    let k = c.loop-node.node-index in
    let long : length c.deref.result.now ≡ k = ap length c.deref.ensures.value ∙ c.loop-node.invariant.count in
    subst (λ (n : ℕ). IsOver n (get_or nodes k (Constant false))) (sym long)
    (c.requires.earlier k _ (slice_get-get_or nodes k (Constant false) c.loop-node-test.true))

pub forms_of-requires-clause-within : goal.forms_of-requires-clause-within
forms_of-requires-clause-within c = rw c.deref.ensures.value (known_within c.loop-node.invariant.known)

pub loop-node-preserved : goal.loop-node-preserved
loop-node-preserved c =
    let nodes = c.args.nodes.now in
    let trees = formulas_of nodes in
    let k = c.loop-node.node-index in
    let old = c.loop-node.known.items in
    let table = c.forms_of.new.table in
    let forms = c.in_ok-forms.forms in
    let made = c.in_ok-forms.ensures.made in
    let count : length old ≡ k = c.loop-node.invariant.count in
    let pushed : c.push.new.self.items ≡ old ++ forms ∷ [] = c.in_ok-push.ensures.items in
    let is : nth trees k ≡ formula_of trees (get_or nodes k (Constant false)) =
    formula_at-node nodes k _ c.requires.earlier (slice_get-get_or nodes k (Constant false) c.loop-node-test.true) in
    let known : AreKnown c.loop-node.table c.deref.result.now trees =
    rw c.deref.ensures.value c.loop-node.invariant.known in
    let here : AreForms table (nth trees (length old)) forms =
    subst (λ (f : Formula). AreForms table f forms) (sym (ap (nth trees) count ∙ is))
    (c.in_ok-forms.ensures.forms trees known) in
    let whole : length table ≡ length c.loop-node.table + length made.more =
    ap length made.is ∙ length-append c.loop-node.table made.more in
    let few : length made.more ≤ 6 = made.few in
    record {
      few = omega (arith, c.loop-node.invariant.few);
      known = rw pushed (known_more (known_kept made c.loop-node.invariant.known) here);
      count = ap length pushed ∙ length-append old (forms ∷ []) ∙ ap (λ n. n + 1) count;
    }
