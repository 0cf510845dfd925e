use Rattle.std.proofs.Common.{◌≡◌, ◌∙◌, ℕ, List, subst, sym}
use Rattle.std.specs.List.{filter_map, slice_get}
use Rattle.ps_sentences.proofs.ConjunctionLemmas.{goals_there}
use Rattle.ps_sentences.specs.Partings.{lists_of}
use Rattle.ps_sentences.specs.Sentences.{IsConjunction}
use Rattle.ps_sentences.specs.Tables.{AreIn, listed_formulas}
use Rattle.ps_models.proofs.TriedCircuits.CoreLemmas.{goals_of, joined_goals, named_among}
use Rattle.ps_models.specs.Inner.Claims.{AreAmong}
use Rattle.ps_models.proofs.by_core.environment_verdict.Goals as goal

pub goals_verdict-requires-clause-goals : goal.goals_verdict-requires-clause-goals
goals_verdict-requires-clause-goals c =
    let p = c.args.parting.now in
    let new = c.implications.new.table in
    let goals = c.in_ok-goals.goals.items in
    let each = goals_of new goals p c.deref.result.now c.deref-2.result.now c.deref.ensures.value
    c.deref-2.ensures.value c.in_ok-goals.ensures in
    subst (AreIn new) (sym c.deref-4.ensures.value) (goals_there p.table (lists_of p) new p.sentences.items goals each)

pub goals_verdict-requires-clause-named : goal.goals_verdict-requires-clause-named
goals_verdict-requires-clause-named c =
    let goals = c.in_ok-goals.goals.items in
    let same : c.deref-5.result.now ≡ filter_map (slice_get goals) c.args.core.now =
    c.deref-5.ensures.value ∙ c.in_ok-named.ensures
    ∙ (λ i. filter_map (slice_get (c.deref-3.ensures.value i)) c.args.core.now) in
    subst (λ (l : List ℕ). AreAmong l c.deref-5.result.now) (sym c.deref-4.ensures.value)
    (subst (AreAmong goals) (sym same) (named_among goals c.args.core.now))

pub returns : goal.returns
returns c f are =
    let p = c.args.parting.now in
    let new = c.implications.new.table in
    let goals = c.in_ok-goals.goals.items in
    let each = goals_of new goals p c.deref.result.now c.deref-2.result.now c.deref.ensures.value
    c.deref-2.ensures.value c.in_ok-goals.ensures in
    c.goals_verdict.ensures f
    (subst (λ (l : List ℕ). IsConjunction f (listed_formulas new l)) (sym c.deref-4.ensures.value)
    (joined_goals new goals f p each are))
