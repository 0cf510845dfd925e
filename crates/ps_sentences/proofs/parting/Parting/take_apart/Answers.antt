use Rattle.std.proofs.Common.{◌∙◌, ap, append-nil, refl, sym}
use Rattle.std.proofs.lemmas.Result.{on_ok_weaker}
use Rattle.ps_sentences.proofs.ListingLemmas.{list_replaces}
use Rattle.ps_sentences.proofs.OwingLemmas.{both_replaces, only_grows, replaced, takes_rest, takes_through}
use Rattle.ps_sentences.proofs.OwingLemmas.{true_replaces}
use Rattle.ps_sentences.proofs.SplitLemmas.{shape_at}
use Rattle.ps_sentences.specs.declared.layers.Layer.{Layer}
use Rattle.ps_sentences.specs.declared.shapes.Shape.TheVariants.{Within}
use Rattle.ps_sentences.proofs.parting.Parting.take_apart.Goals as goal

pub returns-in-True-clause-apart : goal.returns-in-True-clause-apart
returns-in-True-clause-apart c =
    let shape = shape_at c.in-True.is c.in_ok-next_shape.ensures.shape in
    takes_rest (append-nil c.args.pending.now.items)
    (replaced (true_replaces (only_grows shape.grows refl) c.args.sentence c.requires refl shape.has)
    c.args.pending.now.items)

pub returns-in-Both-clause-apart : goal.returns-in-Both-clause-apart
returns-in-Both-clause-apart c = on_ok_weaker c.add_both.result (λ all.
    let shape = shape_at c.in-Both.is c.in_ok-next_shape.ensures.shape in
    takes_rest (sym all) (replaced (both_replaces (only_grows shape.grows refl) c.args.sentence c.requires c.in-Both.f
    c.in-Both.g shape.has.0 shape.has.1 refl shape.has.2) c.args.pending.now.items))
    c.add_both.ensures

pub returns-in_ok-push-in-Some-clause-apart : goal.returns-in_ok-push-in-Some-clause-apart
returns-in_ok-push-in-Some-clause-apart c =
    let is = c.in-Within-Given-default.is
    ∙ ap (λ (l : Layer). Within l c.in-Within-Given-default.g) c.in-Within-Given-default.field-0-is in
    let shape = shape_at is c.in_ok-next_shape.ensures.shape in
    let added = rw c.in-Some.is at c.in_ok-list-in-Within-Given-default.ensures.list in
    takes_rest (sym c.in_ok-push-in-Some.ensures.items)
    (replaced (list_replaces c.requires shape.grows refl refl shape.has.0 shape.has.1 shape.has.2 added)
    c.args.pending.now.items)

pub returns-in-None-clause-apart : goal.returns-in-None-clause-apart
returns-in-None-clause-apart c = on_ok_weaker c.conclude.result (λ takes.
    let added = rw c.in-None.is at c.in_ok-list-in-Within-Given-default.ensures.list in
    let shape = c.in_ok-next_shape.ensures.shape in
    takes_through {mid = record {
      table = c.next_shape.new.table;
      lists = c.args.self.now.lists;
      sentences = c.args.self.now.sentences;
    }} _ c.args.pending.now.items shape.grows refl refl (takes_through _ c.args.pending.now.items added.0.grows added.1
    added.0.sentences (takes c.args.pending.now.items)))
    c.conclude.ensures.apart

pub returns-in-Within-clause-apart : goal.returns-in-Within-clause-apart
returns-in-Within-clause-apart c = on_ok_weaker c.conclude-in-Within.result (λ takes.
    takes_through _ c.args.pending.now.items c.in_ok-next_shape.ensures.shape.grows refl refl
    (takes c.args.pending.now.items))
    c.conclude-in-Within.ensures.apart
