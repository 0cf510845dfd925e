use Rattle.std.proofs.Common.{arith, sym}
use Rattle.ps_pgsolver.proofs.ReadGames.Choices.{name_none, name_done}
use Rattle.ps_pgsolver.proofs.reader.name.Goals as goal

pub returns-in_default-clause-part : goal.returns-in_default-clause-part
returns-in_default-clause-part c = name_none _ (sym c.in_default.ensures.name)

pub returns-clause-part : goal.returns-clause-part
returns-clause-part c = grind (arith, name_done _ (sym c.in-Some.ensures.name) c.next.ensures.rest)
