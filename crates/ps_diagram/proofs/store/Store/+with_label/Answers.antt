use Rattle.std.proofs.Common.{arith, rules}
use Rattle.std.proofs.lemmas.Grind.{common_steps}
use Rattle.std.proofs.lemmas.List.{drop_all}
use Rattle.ps_label.proofs.OperandLists.{expression-Both}
use Rattle.ps_diagram.proofs.TreesFromData.Literals.{literals_are_products}
use Rattle.ps_diagram.proofs.TreeOperations.Truths.{drop_is}
use Rattle.ps_diagram.proofs.store.Store.+with_label.Goals as goal

pub loop-operand-init : goal.loop-operand-init
loop-operand-init t c = search (rules, expression-Both)

pub returns-in-Literals-clause-some : goal.returns-in-Literals-clause-some
returns-in-Literals-clause-some t c = grind (arith, literals_are_products)

pub returns-in_err-more-in-Both-clause-some : goal.returns-in_err-more-in-Both-clause-some
returns-in_err-more-in-Both-clause-some t c =
    let l = c.loop-operand in
    let row = drop_is c.deref-operand-items.result.now l.operand-index c.loop-operand-test.true c.operand-item.is in
    let whole = rw row at l.invariant.product in
    let failed = c.in_err-more-in-Both.ensures.some in
    grind (arith, common_steps)

pub returns-after-loop-operand-clause-some : goal.returns-after-loop-operand-clause-some
returns-after-loop-operand-clause-some t c =
    let l = c.loop-operand in
    let none = drop_all l.operand-index c.deref-operand-items.result.now c.loop-operand-test.false in
    rw none at l.invariant.product
