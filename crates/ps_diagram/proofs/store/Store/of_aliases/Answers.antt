use Rattle.std.proofs.Common.{ℕ, ◌<◌, ◌≡◌, Bool, false, List, [], ◌∷◌, ◌++◌, get_or, sym, ap, ◌∙◌, length, arith}
use Rattle.ps_label.specs.declared.label.Label.{Label}
use Rattle.ps_label.specs.Truth.{alias_truths, expressions}
use Rattle.ps_diagram.specs.Labels.{HaveTruths, one_where}
use Rattle.ps_diagram.specs.Table.{leaf_of}
use Rattle.ps_diagram.proofs.NodeTables.KnownLemmas.{keeps_trans}
use Rattle.ps_diagram.proofs.TreeOperations.Truths.{truths_push, alias_truth, drop_is}
use Rattle.ps_diagram.proofs.store.Store.of_aliases.Goals as goal

pub returns-in_err-node-clause-keeps : goal.returns-in_err-node-clause-keeps
returns-in_err-node-clause-keeps c = keeps_trans c.loop-alias.invariant.keeps c.truth_by.ensures.keeps

pub returns-in_err-push-clause-keeps : goal.returns-in_err-push-clause-keeps
returns-in_err-push-clause-keeps c = keeps_trans c.loop-alias.invariant.keeps c.truth_by.ensures.keeps

pub loop-alias-preserved : goal.loop-alias-preserved
loop-alias-preserved c =
    let l = c.loop-alias in
    let v = l.invariant in
    let x = c.alias-item in
    let k = c.truth_by.ensures.keeps in
    let u = c.truth_by.new.self in
    let node = c.in_ok-node.node in
    let items = c.as_slice-alias-items.result.now in
    let labels = c.args.labels.now in
    let here : l.alias-index < length items = omega arith in
    let is : items ≡ labels = c.as_slice-alias-items.ensures.value in
    let known : ℕ → List Bool = alias_truths (expressions labels) in
    let within : l.alias-index < length labels = omega (arith, ap length is) in
    let at : x.result ≡ get_or labels l.alias-index x.result = x.is
    ∙ ap (λ (ls : List Label). get_or ls l.alias-index x.result) is in
    let given : HaveTruths l.self c.deref.result.now known = rw c.deref.ensures.value v.truths in
    let leaf : (letter : ℕ) → leaf_of u node letter ≡ one_where (get_or (known letter) (length l.nodes.items) false) =
    λ letter. c.in_ok-node.ensures.leaf known given letter ∙ ap one_where
    (sym (alias_truth labels letter l.alias-index c.as_slice-alias-items.ensures.ordered within at)
    ∙ ap (λ j. get_or (known letter) j false) (sym v.count)) in
    let made : HaveTruths u (l.nodes.items ++ node ∷ []) known =
    truths_push k v.truths c.in_ok-node.ensures.held leaf in
    record {
      keeps = keeps_trans v.keeps k;
      count = omega (arith, c.in_ok-push.ensures.len);
      within = rw k.propositions (rw (drop_is items l.alias-index here x.is) at v.within).1;
      truths = rw c.in_ok-push.ensures.items made;
    }
