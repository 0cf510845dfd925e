use Rattle.std.proofs.Common.{◌≡◌, Bool, Some, ap, cond, nat_eq, sym, ◌∙◌}
use Rattle.std.proofs.lemmas.Bool.{eq-eqb, ne_eqb}
use Rattle.indexmap.specs.IndexMap.{get}
use Rattle.ps_machine.specs.Inner.Drawing.{anchor_of}
use Rattle.ps_brief.proofs.DrawnMachines.VisitedKeys.{found_at, some_draft, visited_again, visited_now}
use Rattle.ps_brief.proofs.reach.Reached.visit.Goals as goal

pub returns-then-contains_key-clause-visits : goal.returns-then-contains_key-clause-visits
returns-then-contains_key-clause-visits c =
    let plan = c.args.plan.now in
    let step = c.step_at-step.result in
    let has = some_draft plan c.args.self.now c.args.place step.state c.anchor-anchor.result c.anchor-anchor.ensures
    (sym c.contains_key.ensures ∙ c.if-contains_key.true) in
    λ n at up. visited_again plan c.args.self.now n c.args.place step.state step.priority at c.step_at-step.ensures
    has up

pub draft-requires : goal.draft-requires
draft-requires c = record {
  ready = c.requires.ready;
  reached = found_at c.args.plan.now c.args.place c.step_at-step.result.state c.step_at-step.result.priority
      c.requires.found c.step_at-step.ensures;
}

pub enter-requires-clause-draft : goal.enter-requires-clause-draft
enter-requires-clause-draft c =
    let step = c.step_at-step.result in (
      c.args.place,
      step.state,
      step.priority,
      found_at c.args.plan.now c.args.place step.state step.priority c.requires.found c.step_at-step.ensures,
      c.in_ok-draft.ensures.draft,
    )

pub returns-clause-visits : goal.returns-clause-visits
returns-clause-visits c =
    let plan = c.args.plan.now in
    let step = c.step_at-step.result in
    let draft = c.in_ok-draft.draft in
    let own = c.anchor-anchor.result in
    let is = c.anchor-anchor.ensures in
    let before = c.enter.new.self.drafts in
    let updates = c.in_ok-insert.ensures.updates.0 in
    let stored : get nat_eq c.insert.new.self (anchor_of plan.moves_first c.args.place step.state) ≡ Some draft =
    updates (anchor_of plan.moves_first c.args.place step.state)
    ∙ ap (λ (b : Bool). cond b (Some draft) (get nat_eq before (anchor_of plan.moves_first c.args.place step.state)))
    (eq-eqb own (anchor_of plan.moves_first c.args.place step.state) is) in
    λ n at up. visited_now plan c.draft.ensures.keeps c.args.self.now
    (record { places = c.enter.new.self.places; drafts = c.insert.new.self }) n c.args.place step.state step.priority at
    (found_at plan c.args.place step.state step.priority c.requires.found c.step_at-step.ensures) draft
    c.in_ok-draft.ensures.draft c.in_ok-enter.ensures.stays (c.in_ok-enter.ensures.each up.each)
    c.in_ok-enter.ensures.entered stored
    (λ x other. updates x
    ∙ ap (λ (b : Bool). cond b (Some draft) (get nat_eq before x)) (ne_eqb own x (λ e. other (sym e ∙ is)))
    ∙ ap (λ m. get nat_eq m x) c.in_ok-enter.ensures.drafts) up
