use Rattle.std.proofs.Common.{rules}
use Rattle.ps_game.proofs.StoredGames.WordSets.{places_are, bit_set}
use Rattle.ps_game.proofs.regions.Region.insert.Goals as goal

pub index_mut-requires : goal.index_mut-requires
index_mut-requires c = search (rules, places_are)

pub invariant_of-self : goal.invariant_of-self
invariant_of-self c = (bit_set c.self.invariant c.self.view_is c.requires c.index_mut.ensures.value).packed

pub returns : goal.returns
returns c = search (rules, bit_set)
