use Rattle.ps_tableau.proofs.CoversOfSets.Ways.{of_and, of_false, of_literal, of_next, of_or, of_release, of_true}
use Rattle.ps_tableau.proofs.CoversOfSets.Ways.{of_until}
use Rattle.ps_tableau.proofs.laws.covers_of_each_operator.Goals as goal

pub returns-clause-of_true : goal.returns-clause-of_true
returns-clause-of_true c = of_true

pub returns-clause-of_false : goal.returns-clause-of_false
returns-clause-of_false c = of_false

pub returns-clause-of_literal : goal.returns-clause-of_literal
returns-clause-of_literal c negated p = of_literal negated p

pub returns-clause-of_and : goal.returns-clause-of_and
returns-clause-of_and c f g first second products = of_and f g first second products

pub returns-clause-of_or : goal.returns-clause-of_or
returns-clause-of_or c f g first second = of_or f g first second

pub returns-clause-of_next : goal.returns-clause-of_next
returns-clause-of_next c f = of_next f

pub returns-clause-of_until : goal.returns-clause-of_until
returns-clause-of_until c f g first second products = of_until f g first second products

pub returns-clause-of_release : goal.returns-clause-of_release
returns-clause-of_release c f g first second products = of_release f g first second products
