use Rattle.std.proofs.Common.{ap, rules}
use Rattle.ps_formula.specs.Formulas.{Formula, formula_at, implies}
use Rattle.ps_sentences.proofs.GrownLemmas.{are_still_in, formula_kept, formulas_kept, grown_trans, still_in}
use Rattle.ps_sentences.specs.Sentences.{SentenceData}
use Rattle.ps_sentences.specs.Tables.{listed_formulas}
use Rattle.ps_models.proofs.TriedCircuits.ClaimLemmas.{claim_grown}
use Rattle.ps_models.proofs.TriedCircuits.TrialLemmas.{hold_at, trial_at, tried_by_some}
use Rattle.ps_models.proofs.by_sentences.early_verdict.Goals as goal

pub verdict_given-requires-clause-antecedent : goal.verdict_given-requires-clause-antecedent
verdict_given-requires-clause-antecedent c = c.loop-round.invariant.claim.there

pub verdict_given-requires-clause-consequent : goal.verdict_given-requires-clause-consequent
verdict_given-requires-clause-consequent c =
    still_in c.loop-round.invariant.claim.grows c.args.consequent c.requires.consequent

pub longer_claim-requires-clause-goals : goal.longer_claim-requires-clause-goals
longer_claim-requires-clause-goals c =
    are_still_in (grown_trans c.loop-round.invariant.claim.grows c.in_ok-judgement.ensures.grows)
    c.args.antecedents.now c.requires.antecedents

pub longer_claim-requires-clause-claim : goal.longer_claim-requires-clause-claim
longer_claim-requires-clause-claim c =
    still_in c.in_ok-judgement.ensures.grows c.loop-round.assumed c.loop-round.invariant.claim.there

pub returns-in_default-clause-assumed : goal.returns-in_default-clause-assumed
returns-in_default-clause-assumed c =
    claim_grown (grown_trans c.in_ok-judgement.ensures.grows c.in_ok-more.ensures.grows) c.loop-round.invariant.claim

pub returns-in_default-clause-verdict : goal.returns-in_default-clause-verdict
returns-in_default-clause-verdict c =
    let nodes = c.args.table.now in
    let ks = c.args.antecedents.now in
    let inv = c.loop-round.invariant.claim in
    let s : SentenceData = record {
      antecedents = listed_formulas nodes ks;
      consequent = formula_at nodes c.args.consequent;
    } in
    let a = formula_at c.loop-round.table c.loop-round.assumed in
    let grows = grown_trans inv.grows c.in_ok-judgement.ensures.grows in
    let right = formula_kept inv.grows c.args.consequent c.requires.consequent in
    let none = rw c.in_default.is at c.in_ok-more.ensures.none in
    tried_by_some c.args.trial c.requires.role s a (λ w holds. inv.holds w 0 holds) c.in_ok-judgement.judgement
    (hold_at c.args.trial c.in_ok-judgement.judgement (formulas_kept grows ks c.requires.antecedents) none)
    (trial_at c.args.trial c.in_ok-judgement.judgement (ap (λ (x : Formula). implies a x) right)
    c.in_ok-judgement.ensures.verdict)

pub loop-round-preserved : goal.loop-round-preserved
loop-round-preserved c =
    let longer = rw c.in-Some.is at c.in_ok-more.ensures.longer in
    record {
      claim = longer c.args.table.now c.requires.antecedents
          (claim_grown c.in_ok-judgement.ensures.grows c.loop-round.invariant.claim);
      some = search rules;
    }
