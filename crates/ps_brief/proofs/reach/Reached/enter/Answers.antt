use Rattle.std.proofs.Common.{◌<◌, ◌≤◌, ◌∙◌, arith, length, refl}
use Rattle.ps_diagram.specs.Reached.{AreLeaves}
use Rattle.ps_brief.proofs.DrawnMachines.EnteredPlaces.{all_entered, grows_on, leaf_leads, one_entered}
use Rattle.ps_brief.proofs.reach.Reached.enter.Goals as goal

pub enter_leaf-requires-clause-leaf : goal.enter_leaf-requires-clause-leaf
enter_leaf-requires-clause-leaf c =
    let leaves = c.deref-leaf-items.result.now in
    let d = c.requires.draft in
    let all : AreLeaves c.args.store.now c.args.draft.now.steps leaves =
    rw c.deref-leaf-items.ensures.value c.in_ok-leaves.ensures in
    let within : c.loop-leaf.leaf-index < length leaves = omega arith in
    (leaf_leads c.args.plan.now c.requires.ready d.0 d.1 d.2 d.3 c.args.draft.now d.4 leaves all c.loop-leaf.leaf-index
    (0, 0) within).within

pub enter_leaf-requires-clause-comes : goal.enter_leaf-requires-clause-comes
enter_leaf-requires-clause-comes c =
    let leaves = c.deref-leaf-items.result.now in
    let d = c.requires.draft in
    let all : AreLeaves c.args.store.now c.args.draft.now.steps leaves =
    rw c.deref-leaf-items.ensures.value c.in_ok-leaves.ensures in
    let within : c.loop-leaf.leaf-index < length leaves = omega arith in
    (leaf_leads c.args.plan.now c.requires.ready d.0 d.1 d.2 d.3 c.args.draft.now d.4 leaves all c.loop-leaf.leaf-index
    (0, 0) within).comes

pub loop-leaf-preserved : goal.loop-leaf-preserved
loop-leaf-preserved c =
    let inv = c.loop-leaf.invariant in
    let more = c.in_ok-enter_leaf.ensures.inserts in
    let old = c.loop-leaf.self.places.keys in
    let new = c.enter_leaf.new.self.places.keys in
    record {
      drafts = c.in_ok-enter_leaf.ensures.drafts ∙ inv.drafts;
      grows = grows_on c.args.self.now.places.keys old new inv.grows more.2.grows;
      each = λ all. more.2.each (inv.each all) more.1.found;
      entered =
          one_entered c.args.plan.now c.requires.ready c.deref-leaf-items.result.now c.loop-leaf.leaf-index _ more.0
          old new refl more.2 more.1 inv.entered;
    }

pub returns-clause-entered : goal.returns-clause-entered
returns-clause-entered c =
    let leaves = c.deref-leaf-items.result.now in
    let d = c.requires.draft in
    let all : AreLeaves c.args.store.now c.args.draft.now.steps leaves =
    rw c.deref-leaf-items.ensures.value c.in_ok-leaves.ensures in
    let done : length leaves ≤ c.loop-leaf.leaf-index = omega arith in
    all_entered c.args.plan.now c.requires.ready d.0 d.1 d.2 d.3 c.args.draft.now d.4 leaves all c.loop-leaf.leaf-index
    c.loop-leaf.self.places.keys done c.loop-leaf.invariant.entered
