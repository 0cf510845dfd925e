use Rattle.ps_sentences.proofs.GrownLemmas.{grown_trans}
use Rattle.ps_models.proofs.TriedCircuits.ClaimLemmas.{claim_grown, claim_here}
use Rattle.ps_models.proofs.TriedCircuits.TogetherLemmas.{obeyed_each}
use Rattle.ps_models.proofs.by_groups.all_obeyed.Goals as goal

pub early_verdict-requires-clause-assumed : goal.early_verdict-requires-clause-assumed
early_verdict-requires-clause-assumed c =
    let claim = rw c.in-Some.is at c.in_ok-assumed.ensures.assumed in
    claim_here (claim_grown c.in_ok-all.ensures.grows claim) c.requires.antecedents

pub returns-clause-grows : goal.returns-clause-grows
returns-clause-grows c =
    grown_trans (grown_trans c.in_ok-assumed.ensures.grows c.in_ok-all.ensures.grows)
    c.in_ok-attempt.ensures.assumed.grows

pub returns-clause-obeyed : goal.returns-clause-obeyed
returns-clause-obeyed c won consequent has =
    let verdict = rw (c.is_won.ensures won) at c.in_ok-attempt.ensures.verdict in
    obeyed_each c.args.trial c.args.antecedents.now c.args.consequents.now c.in_ok-assumed.ensures.grows
    c.requires.antecedents c.requires.consequents c.in_ok-all.ensures verdict consequent has
