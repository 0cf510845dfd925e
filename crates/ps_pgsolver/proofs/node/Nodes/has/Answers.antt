use Rattle.std.proofs.Common.{arith}
use Rattle.ps_pgsolver.proofs.ReadGames.KeptLemmas.{ids_are}
use Rattle.ps_pgsolver.proofs.node.Nodes.has.Goals as goal

pub returns : goal.returns
returns c = grind (arith, ids_are)
