use Rattle.std.proofs.Common.{ℕ, ◌^◌, ◌<◌, sym, ◌∙◌, subst}
use Rattle.ps_diagram.proofs.NodeTables.KnownLemmas.{keeps_three, keeps_trans}
use Rattle.ps_brief.specs.Settings.{board_in}
use Rattle.ps_brief.proofs.BasesOfLetters.Coverings.{covering_kept, covering_more}
use Rattle.ps_brief.proofs.BasesOfLetters.FoundLetters.{found_kept, found_more}
use Rattle.ps_brief.proofs.ListedStates.KeptTargets.{fits_kept, leaf_kept, targets_kept}
use Rattle.ps_brief.proofs.bases.extended.Goals as goal

pub least_low-requires-clause-fits : goal.least_low-requires-clause-fits
least_low-requires-clause-fits c = fits_kept c.args.setting.now c.in_ok-low.ensures.keeps c.requires.fits

pub least_low-requires-clause-targets : goal.least_low-requires-clause-targets
least_low-requires-clause-targets c = targets_kept c.args.setting.now c.in_ok-low.ensures.keeps c.requires.targets

pub least_low-requires-clause-some : goal.least_low-requires-clause-some
least_low-requires-clause-some c = (
  c.args.letter,
  (
    subst (λ (n : ℕ). c.args.letter < 2 ^ n) (sym c.in_ok-low.ensures.keeps.propositions) c.requires.letter.0,
    c.in_ok-low.ensures.letter,
  ),
)

pub returns-in_err-least-clause-keeps : goal.returns-in_err-least-clause-keeps
returns-in_err-least-clause-keeps c = keeps_trans c.in_ok-low.ensures.keeps c.in_err-least.ensures.keeps

pub marked-requires-clause-basis : goal.marked-requires-clause-basis
marked-requires-clause-basis c = (keeps_trans c.in_ok-low.ensures.keeps c.in_ok-least.ensures.keeps).held
    c.args.cover.basis c.requires.covering.basis_held

pub marked-requires-clause-within : goal.marked-requires-clause-within
marked-requires-clause-within c =
    let fit = c.requires.fits.fit in
    subst (λ (n : ℕ). c.in_ok-least.least < 2 ^ n)
    (sym (c.in_ok-least.ensures.keeps.propositions ∙ c.in_ok-low.ensures.keeps.propositions ∙ fit.keeps.propositions
    ∙ fit.whole.letters)) c.in_ok-least.ensures.class.here.0.within

pub returns-in_err-basis-clause-keeps : goal.returns-in_err-basis-clause-keeps
returns-in_err-basis-clause-keeps c =
    keeps_three c.in_ok-low.ensures.keeps c.in_ok-least.ensures.keeps c.in_err-basis.ensures.keeps

pub left_uncovered-requires-clause-targets : goal.left_uncovered-requires-clause-targets
left_uncovered-requires-clause-targets c = targets_kept c.args.setting.now
    (keeps_three c.in_ok-low.ensures.keeps c.in_ok-least.ensures.keeps c.in_ok-basis.ensures.keeps) c.requires.targets

pub left_uncovered-requires-clause-uncovered : goal.left_uncovered-requires-clause-uncovered
left_uncovered-requires-clause-uncovered c =
    (keeps_three c.in_ok-low.ensures.keeps c.in_ok-least.ensures.keeps c.in_ok-basis.ensures.keeps).held
    c.args.cover.uncovered c.requires.covering.uncovered_held

pub left_uncovered-requires-clause-letter : goal.left_uncovered-requires-clause-letter
left_uncovered-requires-clause-letter c = c.in_ok-least.ensures.class.here.0

pub returns-in_err-uncovered-clause-keeps : goal.returns-in_err-uncovered-clause-keeps
returns-in_err-uncovered-clause-keeps c = keeps_trans
    (keeps_three c.in_ok-low.ensures.keeps c.in_ok-least.ensures.keeps c.in_ok-basis.ensures.keeps)
    c.in_err-uncovered.ensures.keeps

pub returns-clause-keeps : goal.returns-clause-keeps
returns-clause-keeps c = keeps_trans
    (keeps_three c.in_ok-low.ensures.keeps c.in_ok-least.ensures.keeps c.in_ok-basis.ensures.keeps)
    c.in_ok-uncovered.ensures.keeps

pub returns-clause-covering : goal.returns-clause-covering
returns-clause-covering c =
    let fit = c.requires.fits.fit in
    let marks = c.in_ok-basis.ensures in
    covering_more (board_in c.args.setting.now) c.args.targets.now.state c.args.cover.uncovered c.args.cover.basis
    c.in_ok-basis.basis c.in_ok-uncovered.uncovered c.in_ok-least.least
    (covering_kept (board_in c.args.setting.now) c.args.targets.now.state c.args.cover.uncovered c.args.cover.basis
    (keeps_trans c.in_ok-low.ensures.keeps c.in_ok-least.ensures.keeps) c.requires.covering)
    c.in_ok-least.ensures.class marks.keeps c.in_ok-uncovered.ensures.keeps marks.held
    c.in_ok-uncovered.ensures.held marks.here
    (λ x within differ. marks.others x (subst (λ (n : ℕ). x < 2 ^ n)
    (sym (c.in_ok-least.ensures.keeps.propositions ∙ c.in_ok-low.ensures.keeps.propositions ∙ fit.keeps.propositions
    ∙ fit.whole.letters)) within) differ) c.in_ok-uncovered.ensures.left

pub returns-clause-found : goal.returns-clause-found
returns-clause-found c = λ n is.
    let s = c.args.setting.now in
    let q = c.args.targets.now.state in
    let keeps =
    keeps_three c.in_ok-low.ensures.keeps c.in_ok-least.ensures.keeps c.in_ok-basis.ensures.keeps in
    let least = c.in_ok-least.ensures in
    found_more s q c.args.cover.uncovered c.in_ok-uncovered.uncovered c.args.letter c.in_ok-least.least n
    (found_kept s q c.args.cover.uncovered n keeps c.requires.covering.uncovered_held is) c.requires.first
    (leaf_kept c.args.cover.uncovered c.args.letter keeps c.requires.covering.uncovered_held ∙ c.requires.letter.1)
    (c.in_ok-low.ensures.below c.in_ok-least.least least.class.here.0 least.within) least.minimal
    c.in_ok-uncovered.ensures.apart
