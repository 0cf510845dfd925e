use Rattle.std.proofs.Common.{arith}
use Rattle.ps_tlsf.proofs.SectionFormulas.Conjoining.{conjoins, passes_over, ends_with_true, ends}
use Rattle.ps_tlsf.proofs.whole.conjoin.Goals as goal

pub loop-formula-preserved : goal.loop-formula-preserved
loop-formula-preserved c = grind (arith, conjoins, passes_over)

pub returns-in_ok-push : goal.returns-in_ok-push
returns-in_ok-push c =
    ends_with_true c.args.section c.loop-formula.any c.args.formulas.now c.loop-formula.formula-index
    c.loop-formula.out.items _ c.loop-formula-test.false c.loop-formula.invariant c.if-not-any.true
    c.push.new.self.items c.in_ok-push.ensures.items

pub returns-else-not-any : goal.returns-else-not-any
returns-else-not-any c =
    ends c.args.section c.loop-formula.any c.args.formulas.now c.loop-formula.formula-index
    c.loop-formula.out.items _ c.loop-formula-test.false c.loop-formula.invariant c.if-not-any.false
