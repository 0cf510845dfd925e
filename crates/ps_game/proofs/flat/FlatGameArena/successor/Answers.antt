use Rattle.std.proofs.Common.{arith}
use Rattle.ps_game.proofs.StoredGames.FlatArrays.{stands, successor_is}
use Rattle.ps_game.proofs.flat.FlatGameArena.successor.Goals as goal

pub at-requires : goal.at-requires
at-requires g c = let at = stands c.self.invariant.tell c.self.view_is c.requires.vertex in omega arith

pub overflow_add-at : goal.overflow_add-at
overflow_add-at g c = grind (arith, stands c.self.invariant.tell c.self.view_is c.requires.vertex)

pub at-requires-2 : goal.at-requires-2
at-requires-2 g c = grind (arith, stands c.self.invariant.tell c.self.view_is c.requires.vertex)

pub returns : goal.returns
returns g c = rw (c.at-2.ensures, c.at.ensures)
    (successor_is (stands c.self.invariant.tell c.self.view_is c.requires.vertex) c.requires.number)
