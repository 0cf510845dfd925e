use Rattle.std.proofs.Common.{arith}
use Rattle.ps_game.proofs.StoredGames.FlatArrays.{owners_count}
use Rattle.ps_game.proofs.flat.FlatGameArena.count.Goals as goal

pub returns-clause-vertices : goal.returns-clause-vertices
returns-clause-vertices g c = grind (arith, owners_count c.self.invariant.tell c.self.view_is)
