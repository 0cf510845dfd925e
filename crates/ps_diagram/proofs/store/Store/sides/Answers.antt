use Rattle.std.proofs.Common.{arith}
use Rattle.ps_diagram.proofs.Sides.{sides_of_test, sides_of_later}
use Rattle.ps_diagram.proofs.store.Store.sides.Goals as goal

pub returns-then-own-proposition-clause-sides : goal.returns-then-own-proposition-clause-sides
returns-then-own-proposition-clause-sides c = rw c.if-own-proposition.true at (sides_of_test c.in-Test.ensures.part)

pub returns-else-own-proposition-clause-sides : goal.returns-else-own-proposition-clause-sides
returns-else-own-proposition-clause-sides c =
    let later = rw c.in-Test.ensures.part.tree at c.requires.later in
    sides_of_later c.args.proposition c.cell.ensures.sound c.requires.held
    (rw c.in-Test.ensures.part.tree (omega (arith, later, c.if-own-proposition.false)))
