use Rattle.std.proofs.Common.{arith}
use Rattle.ps_label.proofs.OperandLists.{expression-Both, expression-Either, plain-vec}
use Rattle.ps_label.proofs.label.+plain.Goals as goal

pub Label::plain-returns-in_ok-plain_literals-in-Literals-clause-same : goal.Label::plain-returns-in_ok-plain_literals-in-Literals-clause-same
Label::plain-returns-in_ok-plain_literals-in-Literals-clause-same t c = grind (arith, expression-Both)

pub Label::plain-returns-in_ok-plain_literals-in-Literals-clause-plain : goal.Label::plain-returns-in_ok-plain_literals-in-Literals-clause-plain
Label::plain-returns-in_ok-plain_literals-in-Literals-clause-plain t c = plain-vec c.in_ok-plain_literals-in-Literals.field-0 c.in_ok-plain_literals-in-Literals.ensures.plain

pub Label::plain-returns-in_ok-each_plain-in-Both-clause-same : goal.Label::plain-returns-in_ok-each_plain-in-Both-clause-same
Label::plain-returns-in_ok-each_plain-in-Both-clause-same t c = grind (arith, expression-Both)

pub Label::plain-returns-in_ok-each_plain-in-Both-clause-plain : goal.Label::plain-returns-in_ok-each_plain-in-Both-clause-plain
Label::plain-returns-in_ok-each_plain-in-Both-clause-plain t c = plain-vec c.in_ok-each_plain-in-Both.field-0 c.in_ok-each_plain-in-Both.ensures.plain

pub Label::plain-returns-in_ok-each_plain-in-Either-clause-same : goal.Label::plain-returns-in_ok-each_plain-in-Either-clause-same
Label::plain-returns-in_ok-each_plain-in-Either-clause-same t c = grind (arith, expression-Either)

pub Label::plain-returns-in_ok-each_plain-in-Either-clause-plain : goal.Label::plain-returns-in_ok-each_plain-in-Either-clause-plain
Label::plain-returns-in_ok-each_plain-in-Either-clause-plain t c = plain-vec c.in_ok-each_plain-in-Either.field-0 c.in_ok-each_plain-in-Either.ensures.plain
