use Rattle.std.proofs.Common.{arith}
use Rattle.ps_diagram.proofs.NodeTables.KnownLemmas.{keeps_three, keeps_trans}
use Rattle.ps_machine.proofs.AutomatonGames.GameKeys.Exploring.{both_ok}
use Rattle.ps_brief.proofs.ListedStates.KeptTargets.{targets_kept}
use Rattle.ps_brief.proofs.BasesOfLetters.CoveredLetters.{all_covered, left_after, left_apart}
use Rattle.ps_brief.proofs.bases.left_uncovered.Goals as goal

pub loop-place-init : goal.loop-place-init
loop-place-init c = let made = c.in_ok-covered.ensures in record {
  keeps = made.keeps;
  targets = targets_kept c.args.setting.now made.keeps c.requires.targets;
  covered = all_covered c.args.setting.now c.args.targets.now.state c.args.targets.now.list.items c.args.letter
      c.in_ok-covered.covered made.held made.leaf;
}

pub returns-in_err-next-clause-keeps : goal.returns-in_err-next-clause-keeps
returns-in_err-next-clause-keeps c = keeps_trans c.loop-place.invariant.keeps c.in_err-next.ensures.keeps

pub loop-place-preserved : goal.loop-place-preserved
loop-place-preserved c = let next = c.in_ok-next.ensures in record {
  keeps = keeps_trans c.loop-place.invariant.keeps next.keeps;
  targets = targets_kept c.args.setting.now next.keeps c.loop-place.invariant.targets;
  covered = next.covered;
}

pub returns-in_err-none-clause-keeps : goal.returns-in_err-none-clause-keeps
returns-in_err-none-clause-keeps c = keeps_trans c.loop-place.invariant.keeps c.in_err-none.ensures.keeps

pub choose-requires-clause-truth : goal.choose-requires-clause-truth
choose-requires-clause-truth c =
    c.in_ok-none.ensures.keeps.held c.loop-place.covered c.loop-place.invariant.covered.held

pub choose-requires-clause-other : goal.choose-requires-clause-other
choose-requires-clause-other c = c.in_ok-none.ensures.keeps.held c.args.uncovered
    (c.loop-place.invariant.keeps.held c.args.uncovered c.requires.uncovered)

pub returns-clause-keeps : goal.returns-clause-keeps
returns-clause-keeps c =
    keeps_three c.loop-place.invariant.keeps c.in_ok-none.ensures.keeps c.choose.ensures.keeps

pub returns-clause-left : goal.returns-clause-left
returns-clause-left c =
    let inv = c.loop-place.invariant in
    both_ok _ _ _ c.choose.result c.choose.ensures.held c.choose.ensures.leaf (λ made held leaf.
    left_after c.args.setting.now c.choose.new.self c.args.targets.now inv.targets c.args.letter c.requires.letter
    c.loop-place.place
    (omega (arith, c.loop-place-test.false)) c.loop-place.covered inv.covered inv.keeps c.in_ok-none.ensures.keeps
    c.args.uncovered c.requires.uncovered c.in_ok-none.none c.in_ok-none.ensures.leaf made leaf)

pub returns-clause-apart : goal.returns-clause-apart
returns-clause-apart c =
    let inv = c.loop-place.invariant in
    both_ok _ _ _ c.choose.result c.choose.ensures.held c.choose.ensures.leaf (λ made held leaf.
    left_apart c.args.setting.now c.choose.new.self c.args.targets.now inv.targets c.args.letter c.requires.letter
    c.loop-place.place
    (omega (arith, c.loop-place-test.false)) c.loop-place.covered inv.covered inv.keeps c.in_ok-none.ensures.keeps
    c.args.uncovered c.requires.uncovered c.in_ok-none.none c.in_ok-none.ensures.leaf made leaf)
