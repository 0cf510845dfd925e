use Rattle.std.proofs.Common.{arith, refl}
use Rattle.ps_tableau.proofs.CoversOfSets.ReduceLemmas.{step_down}
use Rattle.ps_tableau.specs.Covers.{of_known}
use Rattle.ps_tableau.specs.Inner.Reduction.{IsFormulaAt}
use Rattle.ps_tableau.proofs.reduction.keeps.Goals as goal

pub loop-kept-init : goal.loop-kept-init
loop-kept-init c = record { within = c.requires; brings = of_known refl }

pub loop-kept-smaller : goal.loop-kept-smaller
loop-kept-smaller c = let is = c.in-Release.ensures in (is.table.earlier c.loop-kept.kept _ is.node).1

pub loop-kept-preserved : goal.loop-kept-preserved
loop-kept-preserved c =
    let v = c.loop-kept.invariant in
    let is = c.in-Release.ensures in
    let nodes = c.args.formulas.now in
    let low = (is.table.earlier c.loop-kept.kept _ is.node).1 in
    record {
      within = omega (arith, low, v.within);
      brings = step_down nodes (IsFormulaAt nodes c.args.from) c.loop-kept.kept _ _ is.table is.node v.brings;
    }
