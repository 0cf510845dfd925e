use Rattle.std.proofs.Common.{◌∙◌, ◌∷◌, [], ℕ, List, sym}
use Rattle.ps_sentences.proofs.GrownLemmas.{all_append, all_over}
use Rattle.ps_sentences.specs.Conjunctions.{IsConjunctionIn}
use Rattle.std.proofs.Common.{◌<◌, length, subst}
use Rattle.ps_models.proofs.TriedCircuits.ClaimLemmas.{claim_joined, named_there}
use Rattle.ps_models.proofs.claims.longer_claim.Goals as goal

pub conjunction-requires : goal.conjunction-requires
conjunction-requires c =
    let table = c.args.table.now in
    let found = c.in_ok-parts.parts.items in
    let items = c.deref.ensures.value ∙ c.in_ok-push.ensures.items in
    all_over (λ k. k < length table) (sym items)
    (all_append (λ k. k < length table) found (c.args.claim ∷ [])
    (named_there table c.args.goals.now found c.requires.goals c.in_ok-parts.ensures.found) (c.requires.claim, tt))

pub returns-clause-longer : goal.returns-clause-longer
returns-clause-longer c nodes there claim =
    let items = c.deref.ensures.value ∙ c.in_ok-push.ensures.items in
    claim_joined c.in_ok-parts.parts.items claim there c.in_ok-parts.ensures.found
    (subst (λ (l : List ℕ). IsConjunctionIn c.args.table.now l c.conjunction.new.table c.in_ok-longer.longer) items
    c.in_ok-longer.ensures)
