use Rattle.std.proofs.Common.{◌≡◌, rules}
use Rattle.std.proofs.lemmas.Result.{IfOk-weaker}
use Rattle.ps_formula.specs.Formulas.{formula_at}
use Rattle.ps_sentences.proofs.GrownLemmas.{are_still_in, formulas_kept}
use Rattle.ps_sentences.specs.Tables.{listed_formulas}
use Rattle.ps_models.proofs.TriedCircuits.ClaimLemmas.{named_there}
use Rattle.ps_models.proofs.TriedCircuits.CoreLemmas.{all_goals, claim_named, goals_hold}
use Rattle.ps_models.proofs.TriedCircuits.TrialLemmas.{hold_at}
use Rattle.ps_models.proofs.by_core.goals_verdict.Goals as goal

pub conjunction-requires : goal.conjunction-requires
conjunction-requires c =
    named_there c.args.table.now c.args.goals.now c.args.named.now c.requires.goals c.requires.named

pub loop-round-init : goal.loop-round-init
loop-round-init c = record { claim = claim_named c.requires.named c.in_ok-claim.ensures; some = search rules }

pub verdict-requires-clause-root : goal.verdict-requires-clause-root
verdict-requires-clause-root c = c.loop-round.invariant.claim.there

pub longer_claim-requires-clause-goals : goal.longer_claim-requires-clause-goals
longer_claim-requires-clause-goals c =
    are_still_in c.loop-round.invariant.claim.grows c.args.goals.now c.requires.goals

pub longer_claim-requires-clause-claim : goal.longer_claim-requires-clause-claim
longer_claim-requires-clause-claim c = c.loop-round.invariant.claim.there

pub returns-in_default : goal.returns-in_default
returns-in_default c f are =
    let inv = c.loop-round.invariant.claim in
    let goals = c.args.goals.now in
    let none = rw c.in_default.is at c.in_ok-more.ensures.none in
    goals_hold c.args.trial c.requires.role f (listed_formulas c.args.table.now goals) are
    (formula_at c.loop-round.table c.loop-round.claim) (λ w holds. inv.holds w 0 holds) c.in_ok-judgement.judgement
    (hold_at c.args.trial c.in_ok-judgement.judgement (formulas_kept inv.grows goals c.requires.goals) none)
    c.in_ok-judgement.ensures

pub loop-round-preserved : goal.loop-round-preserved
loop-round-preserved c =
    let longer = rw c.in-Some.is at c.in_ok-more.ensures.longer in
    record { claim = longer c.args.table.now c.requires.goals c.loop-round.invariant.claim; some = search rules }

pub conjunction-requires-2 : goal.conjunction-requires-2
conjunction-requires-2 c = are_still_in c.loop-round.invariant.claim.grows c.args.goals.now c.requires.goals

pub returns : goal.returns
returns c f are =
    let inv = c.loop-round.invariant.claim in
    let goals = c.args.goals.now in
    let joined = c.in_ok-all.ensures in
    let same : listed_formulas c.loop-round.table goals ≡ listed_formulas c.args.table.now goals =
    formulas_kept inv.grows goals c.requires.goals in
    IfOk-weaker c.verdict-2.result _ _ (λ judgement tried.
    all_goals c.args.trial c.requires.role f (listed_formulas c.args.table.now goals) are
    (formula_at c.conjunction-2.new.table c.in_ok-all.all) (λ w holds. (joined.same w 0).1 (rw same holds))
    (λ w holds. rw same at ((joined.same w 0).0 holds)) judgement tried) c.verdict-2.ensures
