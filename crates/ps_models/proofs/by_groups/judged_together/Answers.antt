use Rattle.std.proofs.Common.{◌≡◌, ◌∙◌, ℕ, List, arith, subst, sym}
use Rattle.std.proofs.lemmas.Result.{IfOk-weaker}
use Rattle.std.specs.List.{Contains}
use Rattle.ps_sentences.specs.Tables.{AreIn}
use Rattle.ps_models.proofs.TriedCircuits.TogetherLemmas.{consequents_there, group_there, list_is, obeyed_under}
use Rattle.ps_models.specs.Inner.Grouping.{consequents_at}
use Rattle.ps_models.proofs.by_groups.judged_together.Goals as goal

pub index-requires : goal.index-requires
index-requires c =
    let p = c.args.parting.now in
    let low = (group_there p c.args.group.now c.requires.parting c.requires.group).0 in
    omega (arith, low, p.lists.ok.0)

pub all_obeyed-requires-clause-antecedents : goal.all_obeyed-requires-clause-antecedents
all_obeyed-requires-clause-antecedents c =
    let p = c.args.parting.now in
    let there = group_there p c.args.group.now c.requires.parting c.requires.group in
    subst (AreIn p.table)
    (sym (c.as_slice-antecedents.ensures.value
    ∙ list_is p c.args.group.now.list c.index.result.now there.0 c.index.ensures)) there.1

pub all_obeyed-requires-clause-consequents : goal.all_obeyed-requires-clause-consequents
all_obeyed-requires-clause-consequents c =
    let p = c.args.parting.now in
    let same : c.deref-3.result.now ≡ consequents_at p.sentences.items c.args.group.now.places.items =
    c.deref-3.ensures.value ∙ c.in_ok-consequents.ensures
    ∙ (λ i. consequents_at (c.deref.ensures.value i) (c.deref-2.ensures.value i)) in
    subst (AreIn p.table) (sym same) (consequents_there p c.args.group.now.places.items c.requires.parting)

pub returns-clause-obeyed : goal.returns-clause-obeyed
returns-clause-obeyed c =
    let p = c.args.parting.now in
    let g = c.args.group.now in
    let there = group_there p g c.requires.parting c.requires.group in
    let same : c.deref-3.result.now ≡ consequents_at p.sentences.items g.places.items =
    c.deref-3.ensures.value ∙ c.in_ok-consequents.ensures
    ∙ (λ i. consequents_at (c.deref.ensures.value i) (c.deref-2.ensures.value i)) in
    let list = c.as_slice-antecedents.ensures.value ∙ list_is p g.list c.index.result.now there.0 c.index.ensures in
    IfOk-weaker c.all_obeyed.result _ _ (λ result obeyed won k has.
    obeyed_under c.args.trial p g.list g.places.items c.as_slice-antecedents.result.now c.requires.group.under list
    (λ n among. obeyed won n (subst (λ (ns : List ℕ). Contains ns n) (sym same) among)) k has)
    c.all_obeyed.ensures.obeyed
