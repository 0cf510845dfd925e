use Rattle.std.proofs.Common.{refl, arith, rules}
use Rattle.std.proofs.lemmas.List.Elements.{All-push}
use Rattle.std.proofs.lemmas.List.Sorted.{IsNonDecreasingBy-from_sort_by_key}
use Rattle.ps_diagram.proofs.NodeTables.Cells.{keeps_refl}
use Rattle.ps_diagram.proofs.NodeTables.KnownLemmas.{keeps_trans}
use Rattle.ps_brief.specs.Inner.Placing.{IsPlaced}
use Rattle.ps_brief.specs.Settings.{board_in}
use Rattle.ps_brief.specs.Targets.{IsTarget}
use Rattle.ps_brief.specs.declared.steps.Target.{Target}
use Rattle.ps_brief.proofs.ListedStates.KeptTargets.{fits_kept, target_kept}
use Rattle.ps_brief.proofs.ListedStates.TargetLists.{all_leaves, are_targets, leaves_more}
use Rattle.ps_brief.proofs.steps.targets_of.Goals as goal

pub leaves-requires : goal.leaves-requires
leaves-requires c = record { held = c.requires.fits.fit.keeps.held c.node.result c.node.ensures.held }

pub returns-in_err-leaves-clause-keeps : goal.returns-in_err-leaves-clause-keeps
returns-in_err-leaves-clause-keeps c = keeps_refl c.args.store.now

pub target_of-requires-clause-fits : goal.target_of-requires-clause-fits
target_of-requires-clause-fits c = fits_kept c.args.setting.now c.loop-leaf.invariant.keeps c.requires.fits

pub returns-in_err-target-clause-keeps : goal.returns-in_err-target-clause-keeps
returns-in_err-target-clause-keeps c = keeps_trans c.loop-leaf.invariant.keeps c.in_err-target.ensures.keeps

pub loop-leaf-preserved : goal.loop-leaf-preserved
loop-leaf-preserved c =
    let inv = c.loop-leaf.invariant in
    let s = c.args.setting.now in
    let q = c.args.state in
    let made = c.in_ok-target.ensures in
    let list = c.loop-leaf.list.items in
    let target = c.in_ok-target.target in
    record {
      keeps = keeps_trans inv.keeps made.keeps;
      each = rw c.in_ok-push.ensures.items (All-push (IsTarget s c.target_of.new.store q) list target
          (λ k d within. target_kept s q made.keeps (inv.each k d within)) made.target);
      placed = rw c.in_ok-push.ensures.items (All-push (IsPlaced (board_in s) q) list target inv.placed made.placed);
      leaves = rw c.in_ok-push.ensures.items (leaves_more list target c.deref-leaf-items.result.now
          c.loop-leaf.leaf-index (omega (arith, c.loop-leaf-test.true)) made.leaf inv.leaves);
    }

pub returns-in_err-push-clause-keeps : goal.returns-in_err-push-clause-keeps
returns-in_err-push-clause-keeps c = keeps_trans c.loop-leaf.invariant.keeps c.in_ok-target.ensures.keeps

pub returns-clause-targets : goal.returns-clause-targets
returns-clause-targets c =
    let inv = c.loop-leaf.invariant in
    let items = c.deref-leaf-items.ensures.value in
    are_targets c.args.setting.now c.requires.fits c.args.state c.requires.state c.in_ok-leaves.leaves.items
    (rw c.node.ensures.node at c.in_ok-leaves.ensures) c.loop-leaf.list.items c.sort_unstable_by_key.new.self.items
    inv.each inv.placed
    (all_leaves c.loop-leaf.list.items c.deref-leaf-items.result.now c.in_ok-leaves.leaves.items c.loop-leaf.leaf-index
    inv.leaves c.loop-leaf.auto.leaf-index-end c.loop-leaf-test.false items)
    c.sort_unstable_by_key.ensures.permutation
    (IsNonDecreasingBy-from_sort_by_key (λ (one : Target). one.place) _ c.sort_unstable_by_key.ensures.sorted
    (λ a r q k. search rules)) _ refl refl
