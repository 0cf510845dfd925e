use Rattle.std.proofs.Common.{◌≡◌, ap, refl}
use Rattle.std.proofs.lemmas.Result.{IfOk-weaker, on_ok_weaker}
use Rattle.ps_formula.specs.Formulas.{Formula, formula_at, implies}
use Rattle.ps_sentences.proofs.GrownLemmas.{added_grows, are_still_in, formula_kept, formulas_kept, grown_trans}
use Rattle.ps_sentences.proofs.GrownLemmas.{still_in}
use Rattle.ps_sentences.specs.Sentences.{SentenceData}
use Rattle.ps_sentences.specs.Tables.{listed_formulas}
use Rattle.ps_models.proofs.TriedCircuits.ClaimLemmas.{claim_first, claim_here}
use Rattle.ps_models.proofs.TriedCircuits.TrialLemmas.{kept_sentence, sentence_trial_at, trial_at, tried_by_all}
use Rattle.ps_models.proofs.by_sentences.sentence_verdict.Goals as goal

pub early_verdict-requires-clause-antecedents : goal.early_verdict-requires-clause-antecedents
early_verdict-requires-clause-antecedents c =
    are_still_in (added_grows c.in_ok-assumed.ensures.ok) c.args.antecedents.now c.requires.antecedents

pub early_verdict-requires-clause-assumed : goal.early_verdict-requires-clause-assumed
early_verdict-requires-clause-assumed c =
    claim_here (claim_first c.args.antecedents.now c.in_ok-assumed.ensures.ok c.in_ok-assumed.ensures.table)
    c.requires.antecedents

pub early_verdict-requires-clause-consequent : goal.early_verdict-requires-clause-consequent
early_verdict-requires-clause-consequent c =
    still_in (added_grows c.in_ok-assumed.ensures.ok) c.args.consequent c.requires.consequent

pub returns-in-Some-clause-grows : goal.returns-in-Some-clause-grows
returns-in-Some-clause-grows c =
    grown_trans (added_grows c.in_ok-assumed.ensures.ok) c.in_ok-attempt.ensures.assumed.grows

pub returns-in-Some-clause-verdict : goal.returns-in-Some-clause-verdict
returns-in-Some-clause-verdict c =
    let ks = c.args.antecedents.now in
    let grows = added_grows c.in_ok-assumed.ensures.ok in
    let verdict = rw c.in-Some.is at c.in_ok-attempt.ensures.verdict in
    sentence_trial_at c.args.trial (kept_sentence grows ks c.args.consequent c.requires.antecedents
    c.requires.consequent) refl verdict

pub conjunction-requires : goal.conjunction-requires
conjunction-requires c =
    are_still_in (grown_trans (added_grows c.in_ok-assumed.ensures.ok) c.in_ok-attempt.ensures.assumed.grows)
    c.args.antecedents.now c.requires.antecedents

pub verdict_given-requires-clause-consequent : goal.verdict_given-requires-clause-consequent
verdict_given-requires-clause-consequent c =
    let early = grown_trans (added_grows c.in_ok-assumed.ensures.ok) c.in_ok-attempt.ensures.assumed.grows in
    still_in (grown_trans early c.in_ok-all.ensures.grows) c.args.consequent c.requires.consequent

pub returns-clause-grows : goal.returns-clause-grows
returns-clause-grows c =
    let early = grown_trans (added_grows c.in_ok-assumed.ensures.ok) c.in_ok-attempt.ensures.assumed.grows in
    on_ok_weaker c.verdict_given.result (λ grows. grown_trans (grown_trans early c.in_ok-all.ensures.grows) grows)
    c.verdict_given.ensures.grows

pub returns-clause-verdict : goal.returns-clause-verdict
returns-clause-verdict c =
    let nodes = c.args.table.now in
    let ks = c.args.antecedents.now in
    let early = grown_trans (added_grows c.in_ok-assumed.ensures.ok) c.in_ok-attempt.ensures.assumed.grows in
    let joined = c.in_ok-all.ensures in
    let s : SentenceData = record {
      antecedents = listed_formulas nodes ks;
      consequent = formula_at nodes c.args.consequent;
    } in
    let a = formula_at c.conjunction.new.table c.in_ok-all.all in
    let right = formula_kept (grown_trans early joined.grows) c.args.consequent c.requires.consequent in
    let same : listed_formulas c.early_verdict.new.table ks ≡ listed_formulas nodes ks =
    formulas_kept early ks c.requires.antecedents in
    IfOk-weaker c.verdict_given.result _ _ (λ judgement tried.
    tried_by_all c.args.trial c.requires.role s a (λ w holds. (joined.same w 0).1 (rw same holds))
    (λ w holds. rw same at ((joined.same w 0).0 holds)) judgement
    (trial_at c.args.trial judgement (ap (λ (x : Formula). implies a x) right) tried)) c.verdict_given.ensures.verdict
