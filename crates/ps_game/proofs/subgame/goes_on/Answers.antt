use Rattle.std.proofs.Common.{◌<◌, length, get_or, arith}
use Rattle.std.proofs.lemmas.Bool.{false≢true}
use Rattle.ps_game.specs.Games.{vertex_count, successors_of}
use Rattle.ps_game.specs.Regions.{has}
use Rattle.ps_game.proofs.PathsAndLoops.SubgameFacts.{edge_at, none_leads}
use Rattle.ps_game.proofs.subgame.goes_on.Goals as goal

pub contains-requires : goal.contains-requires
contains-requires g c =
    let game = g.A.Arena.game c.args.arena.now in
    let below : c.loop-number.number < length (successors_of game c.args.vertex) = omega arith in
    let is_vertex : get_or (successors_of game c.args.vertex) c.loop-number.number 0 < vertex_count game =
    c.requires.game.within c.args.vertex _ (edge_at game c.args.vertex c.loop-number.number c.requires.vertex below) in
    omega (arith, c.successor.ensures, c.requires.places)

pub returns : goal.returns
returns g c =
    let game = g.A.Arena.game c.args.arena.now in (
      λ is_true. absurd (false≢true is_true),
      λ found. absurd (none_leads game (has c.args.region.now) c.args.vertex
          (λ k within. c.loop-number.invariant k (omega arith)) found.0 found.1),
    )
