use Rattle.std.proofs.Common.{◌<◌, length, arith}
use Rattle.ps_game.specs.Games.{successors_of}
use Rattle.ps_game.proofs.PathsAndLoops.SubgameFacts.{number_of_edge, edge_at}
use Rattle.ps_zielonka.proofs.board.Board.won_successor.Goals as goal

pub level-requires : goal.level-requires
level-requires g c =
    let game = g.A.Arena.game c.args.edges.now.arena.now in
    let below : c.loop-number.number < length (successors_of game c.args.vertex) = omega arith in
    omega (
      arith,
      c.args.edges.now.game.within c.args.vertex _ (edge_at game c.args.vertex c.loop-number.number
          c.requires.vertex below),
      c.successor-successor.ensures,
      c.requires.fits.fits.levels,
    )

pub returns-clause-none : goal.returns-clause-none
returns-clause-none g c w edge above won =
    let game = g.A.Arena.game c.args.edges.now.arena.now in
    grind (arith, number_of_edge game c.args.vertex w edge)
