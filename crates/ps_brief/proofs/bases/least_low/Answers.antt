use Rattle.std.proofs.Common.{arith}
use Rattle.ps_diagram.proofs.NodeTables.Cells.{keeps_refl}
use Rattle.ps_diagram.proofs.NodeTables.KnownLemmas.{keeps_trans}
use Rattle.ps_brief.proofs.ListedStates.KeptTargets.{fits_kept, targets_kept}
use Rattle.ps_brief.proofs.BasesOfLetters.Excluding.{alike_all, alike_begun}
use Rattle.ps_brief.proofs.BasesOfLetters.Lowering.{low_least, low_minimal, low_some}
use Rattle.ps_brief.proofs.bases.least_low.Goals as goal

pub loop-place-init : goal.loop-place-init
loop-place-init c = record {
  keeps = keeps_refl c.args.store.now;
  targets = c.requires.targets;
  low = c.requires.low;
  some = c.requires.some;
  within = λ x some. some;
  alike = alike_begun c.args.setting.now c.args.targets.now.state c.args.targets.now.list.items c.args.store.now
      c.args.low;
}

pub returns-in_err-next-clause-keeps : goal.returns-in_err-next-clause-keeps
returns-in_err-next-clause-keeps c = keeps_trans c.loop-place.invariant.keeps c.in_err-next.ensures.keeps

pub loop-place-preserved : goal.loop-place-preserved
loop-place-preserved c = let next = c.in_ok-next.ensures in record {
  keeps = keeps_trans c.loop-place.invariant.keeps next.keeps;
  targets = targets_kept c.args.setting.now next.keeps c.loop-place.invariant.targets;
  low = next.low;
  some = next.some;
  within = λ x some. c.loop-place.invariant.within x (next.within x some);
  alike = next.alike;
}

pub lowered-requires-clause-fits : goal.lowered-requires-clause-fits
lowered-requires-clause-fits c = fits_kept c.args.setting.now c.loop-place.invariant.keeps c.requires.fits

pub path_to-requires : goal.path_to-requires
path_to-requires c = record { held = c.loop-place.invariant.low.held }

pub returns-clause-class : goal.returns-clause-class
returns-clause-class c = low_least c.args.setting.now c.args.targets.now.state
    (fits_kept c.args.setting.now c.loop-place.invariant.keeps c.requires.fits) c.loop-place.low c.in-Some.least
    c.loop-place.invariant.low (rw c.in-Some.is at c.in_ok-found.ensures)

pub returns-clause-minimal : goal.returns-clause-minimal
returns-clause-minimal c =
    let s = c.args.setting.now in
    let inv = c.loop-place.invariant in
    let low = c.loop-place.low in
    let fits = fits_kept s inv.keeps c.requires.fits in
    let least = rw c.in-Some.is at c.in_ok-found.ensures in
    low_minimal s c.args.targets.now.state fits low c.in-Some.least inv.low least
    (alike_all s c.args.targets.now inv.targets c.loop-place.place (omega (arith, c.loop-place-test.false)) low
    c.in-Some.least inv.alike (low_least s c.args.targets.now.state fits low c.in-Some.least inv.low least).here.0
    (low_some s c.args.targets.now.state fits low c.in-Some.least inv.low least))

pub returns-clause-within : goal.returns-clause-within
returns-clause-within c =
    let s = c.args.setting.now in
    let inv = c.loop-place.invariant in
    inv.within c.in-Some.least (low_some s c.args.targets.now.state (fits_kept s inv.keeps c.requires.fits)
    c.loop-place.low c.in-Some.least inv.low (rw c.in-Some.is at c.in_ok-found.ensures))
