use Rattle.std.proofs.Common.{arith}
use Rattle.ps_game.proofs.StoredGames.FlatArrays.{stands}
use Rattle.ps_game.proofs.flat.FlatGameArena.degree.Goals as goal

pub overflow_add-vertex : goal.overflow_add-vertex
overflow_add-vertex g c = grind (arith, stands c.self.invariant.tell c.self.view_is c.requires)

pub at-requires : goal.at-requires
at-requires g c = let at = stands c.self.invariant.tell c.self.view_is c.requires in omega arith

pub at-requires-2 : goal.at-requires-2
at-requires-2 g c = let at = stands c.self.invariant.tell c.self.view_is c.requires in omega arith

pub overflow_sub-result : goal.overflow_sub-result
overflow_sub-result g c = grind (arith, stands c.self.invariant.tell c.self.view_is c.requires)

pub returns : goal.returns
returns g c = grind (arith, stands c.self.invariant.tell c.self.view_is c.requires)
