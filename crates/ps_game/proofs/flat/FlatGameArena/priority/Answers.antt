use Rattle.std.proofs.Common.{arith}
use Rattle.std.proofs.lemmas.Grind.{get_or_default_zero}
use Rattle.ps_game.proofs.StoredGames.FlatArrays.{stands}
use Rattle.ps_game.proofs.flat.FlatGameArena.priority.Goals as goal

pub index-requires : goal.index-requires
index-requires g c = grind (arith, stands c.self.invariant.tell c.self.view_is c.requires)

pub returns : goal.returns
returns g c =
    let at = stands c.self.invariant.tell c.self.view_is c.requires in
    grind (arith, get_or_default_zero)
