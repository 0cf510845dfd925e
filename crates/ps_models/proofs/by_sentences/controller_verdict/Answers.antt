use Rattle.std.proofs.Common.{◌≡◌, ◌∙◌, ◌<◌, List, Some, ap, arith, below_more, length, subst, sym, true}
use Rattle.std.proofs.lemmas.Option.{slice_get-get_or}
use Rattle.std.specs.List.{slice_get}
use Rattle.ps_sentences.specs.declared.parting.Sentence.{Sentence}
use Rattle.ps_verify.specs.declared.judgement.Judgement.{Judgement}
use Rattle.ps_models.proofs.TriedCircuits.TrialLemmas.{kept_trans, lost_by_sentence, same_sentence_at}
use Rattle.ps_models.proofs.TriedCircuits.TrialLemmas.{sentence_trial_at, won_by_sentences}
use Rattle.ps_models.specs.Inner.Trying.{IsObeyedByAll, IsTrialOf}
use Rattle.ps_models.proofs.by_sentences.controller_verdict.Goals as goal

pub loop-place-init : goal.loop-place-init
loop-place-init c = record { kept = c.in_ok-known.ensures.kept; obeyed = λ k low. absurd (omega (arith, low)) }

pub loop-place-preserved-then-index : goal.loop-place-preserved-then-index
loop-place-preserved-then-index c =
    let p = c.args.parting.now in
    let q = c.known_by_groups.new.parting in
    let k = c.loop-place.place in
    let kept = c.in_ok-known.ensures.kept in
    let long = ap (λ (ss : List Sentence). length ss) kept.sentences in
    let there : k < length p.sentences.items =
    omega (arith, long, q.sentences.ok.0, c.loop-place-test.true, c.len-place-end.ensures) in
    let flags = c.in_ok-known.known.items in
    let each = c.in_ok-known.ensures.known.one_each in
    let low : k < length flags =
    omega (arith, each, q.sentences.ok.0, c.loop-place-test.true, c.len-place-end.ensures) in
    let at : slice_get flags k ≡ Some true =
    slice_get-get_or flags k c.index.result.now low ∙ ap Some (sym c.index.ensures ∙ c.if-index.true) in
    record {
      kept = c.loop-place.invariant.kept;
      obeyed = below_more _ _ c.loop-place.invariant.obeyed
          (subst (IsObeyedByAll c.args.trial) (same_sentence_at p q kept c.requires.parting k there)
          (c.in_ok-known.ensures.known.each k at));
    }

pub returns-in-Loses : goal.returns-in-Loses
returns-in-Loses c f are =
    let p = c.args.parting.now in
    let k = c.loop-place.place in
    let q = c.known_by_groups.new.parting in
    let long = ap (λ (ss : List Sentence). length ss) c.in_ok-known.ensures.kept.sentences in
    let there : k < length p.sentences.items =
    omega (arith, long, q.sentences.ok.0, c.loop-place-test.true, c.len-place-end.ensures) in
    let same = same_sentence_at p c.loop-place.parting c.loop-place.invariant.kept c.requires.parting k there in
    let broken = sentence_trial_at c.args.trial same c.in-Loses.is c.in_ok-judgement.ensures.verdict in
    subst (λ (j : Judgement). IsTrialOf c.args.trial f j) (sym c.in-Loses.is)
    (lost_by_sentence c.args.trial c.requires.role p f are k there c.in-Loses.field-0 broken)

pub loop-place-preserved : goal.loop-place-preserved
loop-place-preserved c =
    let p = c.args.parting.now in
    let k = c.loop-place.place in
    let q = c.known_by_groups.new.parting in
    let long = ap (λ (ss : List Sentence). length ss) c.in_ok-known.ensures.kept.sentences in
    let there : k < length p.sentences.items =
    omega (arith, long, q.sentences.ok.0, c.loop-place-test.true, c.len-place-end.ensures) in
    let same = same_sentence_at p c.loop-place.parting c.loop-place.invariant.kept c.requires.parting k there in
    record {
      kept = kept_trans c.loop-place.invariant.kept c.in_ok-judgement.ensures.kept;
      obeyed = below_more _ _ c.loop-place.invariant.obeyed
          (sentence_trial_at c.args.trial same c.in_default.is c.in_ok-judgement.ensures.verdict);
    }

pub returns : goal.returns
returns c f are =
    let p = c.args.parting.now in
    let q = c.known_by_groups.new.parting in
    let long = ap (λ (ss : List Sentence). length ss) c.in_ok-known.ensures.kept.sentences in
    won_by_sentences c.args.trial c.requires.role p f are (λ k there. c.loop-place.invariant.obeyed k
    (omega (arith, long, q.sentences.ok.0, c.loop-place-test.false, c.len-place-end.ensures, there)))
