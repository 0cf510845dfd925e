use Rattle.std.proofs.Common.{arith}
use Rattle.ps_diagram.proofs.NodeTables.KnownLemmas.{keeps_trans}
use Rattle.ps_brief.proofs.ListedStates.KeptTargets.{targets_kept}
use Rattle.ps_brief.proofs.BasesOfLetters.Excluding.{below_all, below_begun}
use Rattle.ps_brief.proofs.BasesOfLetters.Lowering.{all_low}
use Rattle.ps_brief.proofs.bases.excluded.Goals as goal

pub loop-place-init : goal.loop-place-init
loop-place-init c = let made = c.in_ok-low.ensures in record {
  keeps = made.keeps;
  targets = targets_kept c.args.setting.now made.keeps c.requires.targets;
  low = all_low c.args.setting.now c.args.targets.now.state c.in_ok-low.low made.held made.leaf;
  letter = made.leaf c.args.letter;
  below = below_begun c.args.setting.now c.args.targets.now.state c.args.targets.now.list.items _ c.args.letter
      c.in_ok-low.low;
}

pub returns-in_err-next-clause-keeps : goal.returns-in_err-next-clause-keeps
returns-in_err-next-clause-keeps c = keeps_trans c.loop-place.invariant.keeps c.in_err-next.ensures.keeps

pub loop-place-preserved : goal.loop-place-preserved
loop-place-preserved c = let next = c.in_ok-next.ensures in record {
  keeps = keeps_trans c.loop-place.invariant.keeps next.keeps;
  targets = targets_kept c.args.setting.now next.keeps c.loop-place.invariant.targets;
  low = next.low;
  letter = next.letter;
  below = next.below;
}

pub returns-clause-below : goal.returns-clause-below
returns-clause-below c =
    below_all c.args.setting.now c.args.targets.now c.loop-place.invariant.targets c.loop-place.place
    (omega (arith, c.loop-place-test.false)) c.args.letter c.loop-place.low c.loop-place.invariant.below
