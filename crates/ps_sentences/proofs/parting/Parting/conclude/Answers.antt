use Rattle.std.proofs.Common.{◌++◌, ◌∙◌, ◌≡◌, ap, append-nil, map, refl}
use Rattle.std.proofs.lemmas.Result.{on_ok_weaker}
use Rattle.ps_sentences.proofs.OwingLemmas.{only_grows, parts_replace, replaced, takes_rest}
use Rattle.ps_sentences.specs.Inner.Owing.{sentence_with}
use Rattle.ps_sentences.proofs.parting.Parting.conclude.Goals as goal

pub returns-clause-apart : goal.returns-clause-apart
returns-clause-apart c = on_ok_weaker c.add_each.result (λ more pending.
    let parts = c.in_ok-parts.parts.items in
    let are = c.in_ok-parts.ensures.conjuncts in
    let all : c.add_each.new.sentences.items ≡
    c.args.self.now.sentences.items ++ map (sentence_with c.args.sentence.antecedents) parts =
    more ∙ ap (λ l. c.args.self.now.sentences.items ++ map (sentence_with c.args.sentence.antecedents) l)
    c.deref.ensures.value in
    takes_rest (append-nil pending)
    (replaced (parts_replace (only_grows are.grows refl) c.args.sentence c.requires parts are.there all are.is)
    pending))
    c.add_each.ensures
