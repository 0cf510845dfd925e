use Rattle.std.proofs.Common.{sym}
use Rattle.ps_tlsf.proofs.SectionFormulas.Placing.{placed_none, placed_more, placed_all}
use Rattle.ps_tlsf.proofs.specification.place.Goals as goal

pub loop-formula-init : goal.loop-formula-init
loop-formula-init c = placed_none c.args.table.now c.args.formulas.now c.new-list.result.items c.new-list.ensures.items

pub loop-formula-preserved : goal.loop-formula-preserved
loop-formula-preserved c =
    placed_more c.loop-formula.list.items c.push.new.self.items c.in_ok-root.root c.args.formulas.now
    c.loop-formula.formula-index c.formula-item.result c.loop-formula.invariant
    (rw c.as_slice.ensures.value at c.in_ok-root.ensures) c.loop-formula-test.true (sym c.formula-item.is)
    c.in_ok-push.ensures.items

pub returns : goal.returns
returns c = placed_all c.loop-formula.list.items c.args.formulas.now c.loop-formula.formula-index
    c.loop-formula-test.false c.loop-formula.invariant
