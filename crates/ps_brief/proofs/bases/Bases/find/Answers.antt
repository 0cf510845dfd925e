use Rattle.std.proofs.Common.{sym, ◌∙◌, subst, ℕ, Option}
use Rattle.std.specs.Prelude.{IfSome}
use Rattle.ps_diagram.proofs.NodeTables.Cells.{keeps_refl}
use Rattle.ps_machine.specs.declared.key.Key.TheVariants.{First}
use Rattle.ps_basis.specs.Bases.{IsBasis}
use Rattle.ps_basis.proofs.ArenaKeys.{stands_in}
use Rattle.ps_brief.specs.Listings.{listed_keys}
use Rattle.ps_brief.specs.MinimalLetters.{HasMinimalLetters}
use Rattle.ps_brief.specs.declared.bases.Basis.{Basis}
use Rattle.ps_brief.specs.Settings.{board_in}
use Rattle.ps_brief.proofs.BriefArenas.Findings.{finding_known, finding_more}
use Rattle.ps_brief.proofs.ListedStates.KeptListings.{state_known, targets_there}
use Rattle.ps_brief.proofs.bases.Bases.find.Goals as goal

pub returns-then-is_known-clause-keeps : goal.returns-then-is_known-clause-keeps
returns-then-is_known-clause-keeps c = keeps_refl c.args.store.now

pub returns-then-is_known-clause-found : goal.returns-then-is_known-clause-found
returns-then-is_known-clause-found c = λ e n p is at. finding_known c.args.setting.now c.args.listing.now
    c.args.self.now n c.args.state p is at (sym c.contains_key-is_known.ensures ∙ c.if-is_known.true)

pub of-requires : goal.of-requires
of-requires c = let (p, inside) = c.requires.listed in
    state_known c.args.setting.now c.requires.listing c.args.state p inside

pub basis_of-requires-clause-targets : goal.basis_of-requires-clause-targets
basis_of-requires-clause-targets c = let (p, inside) = c.requires.listed in
    (targets_there c.args.setting.now c.requires.listing c.args.state p inside c.of.result.now c.of.ensures).are

pub returns-in_ok-insert-in-Some-clause-found : goal.returns-in_ok-insert-in-Some-clause-found
returns-in_ok-insert-in-Some-clause-found c = λ e n p is at.
    let board = board_in c.args.setting.now in
    let keys = listed_keys c.args.listing.now in
    let q = c.args.state in
    let inside = stands_in keys n (First q p) at in
    let there = targets_there c.args.setting.now c.requires.listing q p inside c.of.result.now c.of.ensures in
    let basis : IsBasis board c.of.result.now.state c.in-Some.basis.letters.items =
    subst (λ (o : Option Basis). IfSome o (λ b. IsBasis board c.of.result.now.state b.letters.items)) c.in-Some.is
    c.in_ok-found.ensures.basis in
    finding_more c.args.setting.now c.args.listing.now c.args.self.now _ n q p c.in-Some.basis is at inside
    (subst (λ (r : ℕ). IsBasis board r c.in-Some.basis.letters.items) there.state basis)
    (λ r. c.in_ok-insert-in-Some.ensures.updates.0 r)

pub returns-in-None-clause-false_only : goal.returns-in-None-clause-false_only
returns-in-None-clause-false_only c = λ e.
    let (p, inside) = c.requires.listed in
    let there =
    targets_there c.args.setting.now c.requires.listing c.args.state p inside c.of.result.now c.of.ensures in
    subst (λ (q : ℕ). HasMinimalLetters (board_in c.args.setting.now) q c.args.most) there.state
    (rw c.in-None.is at c.in_ok-found.ensures.none_only)
