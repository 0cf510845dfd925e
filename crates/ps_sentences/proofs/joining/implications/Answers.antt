use Rattle.std.proofs.Common.{get_or, map, sym}
use Rattle.std.proofs.lemmas.List.{take_more}
use Rattle.ps_sentences.proofs.ConjunctionLemmas.{conjoined_still, implied_at, implied_more}
use Rattle.ps_sentences.proofs.GrownLemmas.{added_grows, all_at}
use Rattle.ps_sentences.specs.Partings.{IsSentenceIn}
use Rattle.ps_sentences.specs.declared.parting.Sentence.{Sentence}
use Rattle.ps_sentences.proofs.joining.implications.Goals as goal

abbrev no_sentence : Sentence
no_sentence = record { antecedents = 0; consequent = 0 }

pub loop-sentence-preserved : goal.loop-sentence-preserved
loop-sentence-preserved c =
    let nodes = c.args.table.now in
    let lists = map (λ v. v.items) c.args.lists.now in
    let ss = c.args.sentences.now in
    let k = c.loop-sentence.sentence-index in
    let s = get_or ss k no_sentence in
    let there = all_at (IsSentenceIn nodes lists) ss k no_sentence c.requires c.loop-sentence-test.true in
    let implied = c.loop-sentence.invariant.implied in
    let known = c.in_ok-known.ensures nodes implied.grows there.antecedents c.loop-sentence.invariant.last in
    let added = c.in_ok-goal.ensures.ok in
    record {
      implied = implied_at (sym (take_more ss k no_sentence c.loop-sentence-test.true))
          (sym c.in_ok-push.ensures.items) (implied_more s implied there known added c.in_ok-goal.ensures.table);
      last = conjoined_still (added_grows added) known.is;
    }
