use Rattle.std.proofs.Common.{◌<◌, length, arith}
use Rattle.ps_game.specs.Games.{successors_of}
use Rattle.std.proofs.lemmas.List.Elements.{Contains-get_or}
use Rattle.ps_attractor.proofs.tables.Tables.first_free.Goals as goal

pub level-requires : goal.level-requires
level-requires g c =
    let game = g.A.Arena.game c.args.edges.now.arena.now in
    let below : c.loop-number.number < length (successors_of game c.args.vertex) = omega (arith, c.requires.within) in
    omega (
      arith,
      c.args.edges.now.game.within c.args.vertex _ (
        c.requires.vertex.vertex,
        Contains-get_or (successors_of game c.args.vertex) c.loop-number.number 0 below,
      ),
      c.successor.ensures,
      c.requires.vertex.fits.levels,
    )
