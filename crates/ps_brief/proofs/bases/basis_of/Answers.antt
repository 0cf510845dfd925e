use Rattle.std.proofs.Common.{ℕ, ◌^◌, ◌<◌, ◌∙◌, subst, arith}
use Rattle.ps_diagram.specs.Letters.{IsLeastLetter}
use Rattle.ps_diagram.specs.Reached.{LeadsToLeaf}
use Rattle.ps_diagram.proofs.NodeTables.KnownLemmas.{keeps_trans}
use Rattle.ps_brief.specs.Settings.{board_in}
use Rattle.ps_brief.proofs.BasesOfLetters.Coverings.{covering_done, only_none}
use Rattle.ps_brief.proofs.BasesOfLetters.FoundLetters.{enough_letters}
use Rattle.ps_brief.proofs.BasesOfLetters.Lowering.{least_first}
use Rattle.ps_brief.proofs.ListedStates.KeptTargets.{fits_kept, targets_kept}
use Rattle.ps_brief.proofs.bases.basis_of.Goals as goal

pub loop-round-init : goal.loop-round-init
loop-round-init c = let made = c.in_ok-cover.ensures in record {
  keeps = made.keeps;
  fits = fits_kept c.args.setting.now made.keeps c.requires.fits;
  targets = targets_kept c.args.setting.now made.keeps c.requires.targets;
  covering = made.covering (board_in c.args.setting.now) c.args.targets.now.state;
  found = made.found c.args.setting.now c.args.targets.now.state;
}

pub path_to-requires : goal.path_to-requires
path_to-requires c = record { held = c.loop-round.invariant.covering.uncovered_held }

pub returns-in_err-next-clause-keeps : goal.returns-in_err-next-clause-keeps
returns-in_err-next-clause-keeps c = keeps_trans c.loop-round.invariant.keeps c.in_err-next.ensures.keeps

pub loop-round-preserved : goal.loop-round-preserved
loop-round-preserved c = let next = c.in_ok-next.ensures in record {
  keeps = keeps_trans c.loop-round.invariant.keeps next.keeps;
  fits = fits_kept c.args.setting.now next.keeps c.loop-round.invariant.fits;
  targets = targets_kept c.args.setting.now next.keeps c.loop-round.invariant.targets;
  covering = next.covering;
  found = next.found c.loop-round._round c.loop-round.invariant.found;
}

pub letters_of-requires-clause-held : goal.letters_of-requires-clause-held
letters_of-requires-clause-held c = c.loop-round.invariant.covering.basis_held

pub letters_of-requires-clause-leaves : goal.letters_of-requires-clause-leaves
letters_of-requires-clause-leaves c = λ x leaf within at.
    (let fit = c.loop-round.invariant.fits.fit in
    (c.loop-round.invariant.covering.marked x leaf
    (subst (λ (n : ℕ). x < 2 ^ n) (fit.keeps.propositions ∙ fit.whole.letters) within) at).itself)

pub returns-in_default-clause-basis : goal.returns-in_default-clause-basis
returns-in_default-clause-basis c =
    let inv = c.loop-round.invariant in
    let fit = inv.fits.fit in
    covering_done (board_in c.args.setting.now) c.args.targets.now.state c.loop-round.cover.uncovered
    c.loop-round.cover.basis c.in_ok-basis.basis.letters.items (fit.keeps.propositions ∙ fit.whole.letters)
    inv.covering (only_none
    ((x : ℕ) → LeadsToLeaf c.loop-round.store c.loop-round.cover.uncovered 1 x → ⊥)
    (λ x. IsLeastLetter (LeadsToLeaf c.loop-round.store c.loop-round.cover.uncovered 1) x) c.in_ok-letter.field-0
    c.in_ok-letter.ensures c.in_default.not-Some)
    c.in_ok-basis.ensures

pub extended-requires-clause-first : goal.extended-requires-clause-first
extended-requires-clause-first c = least_first c.args.setting.now c.args.targets.now.state c.loop-round.invariant.fits
    c.loop-round.cover.uncovered c.in-Some.letter c.loop-round.invariant.found.others
    (rw c.in-Some.is at c.in_ok-letter.ensures)

pub returns-clause-none_only : goal.returns-clause-none_only
returns-clause-none_only c = enough_letters (board_in c.args.setting.now) c.args.targets.now.state c.args.most
    c.loop-round._round (omega (arith, c.loop-round-test.false)) c.loop-round.invariant.found.found
