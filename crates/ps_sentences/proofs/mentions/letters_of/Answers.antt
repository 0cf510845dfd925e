use Rattle.std.proofs.Common.{◌≡◌, ◌∙◌, ◌+◌, ◌++◌, ◌∷◌, [], ap, get_or, length, length-append, false}
use Rattle.std.proofs.lemmas.Option.{slice_get-get_or}
use Rattle.ps_formula.specs.declared.node.Node.TheVariants.{Constant}
use Rattle.ps_formula.specs.Formulas.{formula_of, formulas_of, nth}
use Rattle.ps_formula.proofs.Trees.{formula_at-node}
use Rattle.ps_sentences.specs.Inner.MentionedBefore.{EachMentioned}
use Rattle.ps_sentences.specs.Mentions.{AreMentioned}
use Rattle.ps_sentences.proofs.MentionLemmas.{one_more}
use Rattle.ps_sentences.proofs.mentions.letters_of.Goals as goal

pub loop-node-preserved : goal.loop-node-preserved
loop-node-preserved c =
    let nodes = c.args.nodes.now in
    let trees = formulas_of nodes in
    let k = c.loop-node.node-index in
    let old = c.loop-node.letters.items in
    let letter = c.mentioned_by-letter.result in
    let count : length old ≡ k = c.loop-node.invariant.count in
    let pushed : c.push.new.self.items ≡ old ++ letter ∷ [] = c.in_ok-push.ensures.items in
    let is : nth trees k ≡ formula_of trees (get_or nodes k (Constant false)) =
    formula_at-node nodes k _ c.requires.earlier (slice_get-get_or nodes k (Constant false) c.loop-node-test.true) in
    let known : EachMentioned trees c.deref.result.now = rw c.deref.ensures.value c.loop-node.invariant.known in
    let here : AreMentioned (nth trees (length old)) letter =
    rw (count, is) (c.mentioned_by-letter.ensures trees known) in
    record {
      count = ap length pushed ∙ length-append old (letter ∷ []) ∙ ap (λ n. n + 1) count;
      known = rw pushed (one_more c.loop-node.invariant.known letter here);
    }
