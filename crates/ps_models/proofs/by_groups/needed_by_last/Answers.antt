use Rattle.std.proofs.Common.{◌-◌, ◌<◌, ℕ, arith, length, subst, sym}
use Rattle.ps_sentences.proofs.GrownLemmas.{added_grows, all_at, are_still_in, still_in}
use Rattle.ps_models.proofs.TriedCircuits.ClaimLemmas.{claim_before, claim_first, claim_here}
use Rattle.ps_models.proofs.by_groups.needed_by_last.Goals as goal

pub early_verdict-requires-clause-antecedents : goal.early_verdict-requires-clause-antecedents
early_verdict-requires-clause-antecedents c =
    are_still_in (added_grows c.in_ok-none.ensures.ok) c.args.antecedents.now c.requires.antecedents

pub early_verdict-requires-clause-assumed : goal.early_verdict-requires-clause-assumed
early_verdict-requires-clause-assumed c =
    claim_here (claim_first c.args.antecedents.now c.in_ok-none.ensures.ok c.in_ok-none.ensures.table)
    c.requires.antecedents

pub early_verdict-requires-clause-consequent : goal.early_verdict-requires-clause-consequent
early_verdict-requires-clause-consequent c =
    let fs = c.args.consequents.now in
    let some = c.in-Some.ensures.item.3 in
    let low : length fs - 1 < length fs = let more = some.0 in omega (arith, more) in
    let there = all_at (λ k. k < length c.args.table.now) fs (length fs - 1) 0 c.requires.consequents low in
    still_in (added_grows c.in_ok-none.ensures.ok) c.in-Some.last.now
    (subst (λ (k : ℕ). k < length c.args.table.now) (sym (some.1 0)) there)

pub returns-then-is_won-clause-assumed : goal.returns-then-is_won-clause-assumed
returns-then-is_won-clause-assumed c =
    claim_before (added_grows c.in_ok-none.ensures.ok) c.requires.antecedents c.in_ok-attempt.ensures.assumed
