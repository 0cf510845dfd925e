use Rattle.std.proofs.Common.{Some, ap, cond, nat_eq, sym, ◌∙◌}
use Rattle.indexmap.specs.IndexMap.{get}
use Rattle.ps_diagram.proofs.NodeTables.Cells.{keeps_refl}
use Rattle.ps_brief.specs.Settings.{board_in}
use Rattle.ps_brief.specs.Targets.{target_keys}
use Rattle.ps_brief.proofs.ListedStates.Visits.{targets_differ, visiting_added, visiting_passed}
use Rattle.ps_brief.proofs.listing.Listing.visit.Goals as goal

pub returns-then-is_known-clause-keeps : goal.returns-then-is_known-clause-keeps
returns-then-is_known-clause-keeps c = keeps_refl c.args.store.now

pub returns-then-is_known-clause-visited : goal.returns-then-is_known-clause-visited
returns-then-is_known-clause-visited c = λ n p is at.
    visiting_passed c.args.setting.now c.args.self.now n c.args.state p (keeps_refl c.args.store.now) is at
    (sym c.contains_key-is_known.ensures ∙ c.if-is_known.true)

pub add-requires : goal.add-requires
add-requires c = targets_differ (board_in c.args.setting.now) c.in_ok-targets.targets.state
    (target_keys c.in_ok-targets.targets.list.items) c.in_ok-targets.ensures.targets.listed

pub returns-clause-visited : goal.returns-clause-visited
returns-clause-visited c = λ n p is at.
    visiting_added c.args.setting.now c.requires.fits.fit.whole c.args.self.now _ n c.args.state p
    c.in_ok-targets.targets c.in_ok-targets.ensures.keeps is at c.in_ok-targets.ensures.state
    c.in_ok-targets.ensures.targets c.in_ok-add.ensures.entered
    (λ r. c.in_ok-insert.ensures.updates.0 r
    ∙ ap (λ m. cond (nat_eq c.args.state r) (Some c.in_ok-targets.targets) (get nat_eq m r)) c.add.ensures.targets)
