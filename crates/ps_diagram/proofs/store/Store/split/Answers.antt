use Rattle.std.proofs.Common.{arith}
use Rattle.ps_diagram.proofs.Sides.{constant_root}
use Rattle.ps_diagram.proofs.store.Store.split.Goals as goal

pub returns-then-proposition-propositions : goal.returns-then-proposition-propositions
returns-then-proposition-propositions c = grind (arith, constant_root)

pub sides-requires-clause-named : goal.sides-requires-clause-named
sides-requires-clause-named c = omega arith

pub sides-requires-2-clause-named : goal.sides-requires-2-clause-named
sides-requires-2-clause-named c = omega arith

pub returns : goal.returns
returns c = grind arith
