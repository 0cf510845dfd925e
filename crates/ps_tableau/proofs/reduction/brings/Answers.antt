use Rattle.std.proofs.Common.{arith}
use Rattle.ps_tableau.proofs.CoversOfSets.ReduceLemmas.{step_up}
use Rattle.ps_tableau.specs.Inner.Reduction.{IsFormulaAt}
use Rattle.ps_tableau.proofs.reduction.brings.Goals as goal

pub ends-smaller : goal.ends-smaller
ends-smaller c = let is = c.in-Until.ensures in (is.table.earlier c.ends.end _ is.node).1

pub ends-preserved : goal.ends-preserved
ends-preserved c =
    let v = c.ends.invariant in
    let is = c.in-Until.ensures in
    let nodes = c.args.formulas.now in
    let low = (is.table.earlier c.ends.end _ is.node).1 in
    record {
      within = omega (arith, low, v.within);
      back =
          λ brings. v.back (step_up nodes (IsFormulaAt nodes c.args.from) c.ends.end _ _ is.table is.node brings);
    }
