use Rattle.std.proofs.Common.{subst, rules}
use Rattle.ps_game.specs.Games.{IsGame}
use Rattle.ps_game.proofs.StoredGames.Finished.{IsGame-without_repeats}
use Rattle.ps_game.proofs.StoredGames.VertexArrays.{without_repeats-same}
use Rattle.ps_game.proofs.vertices.Vertices.into_game.Goals as goal

pub as_game-requires : goal.as_game-requires
as_game-requires c = subst IsGame (without_repeats-same c.args.self c.if-are_distinct.ensures)
    (search (rules, IsGame-without_repeats, c.self.invariant.players, c.requires.bare, c.requires.known))

pub returns-then-are_distinct : goal.returns-then-are_distinct
returns-then-are_distinct c = search (rules, without_repeats-same)
