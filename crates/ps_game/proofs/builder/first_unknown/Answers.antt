use Rattle.std.proofs.Common.{◌≡◌, get_or, below_more, rules}
use Rattle.std.proofs.lemmas.List.{get_or_default}
use Rattle.ps_game.specs.Games.{vertex_count, successors_of, no_vertex}
use Rattle.ps_game.proofs.StoredGames.Unknown.{all_from_find}
use Rattle.ps_game.proofs.builder.first_unknown.Goals as goal

pub loop-number-preserved : goal.loop-number-preserved
unfolding vertex_count successors_of
loop-number-preserved c =
    let vertex : get_or c.args.vertices.now c.loop-number.number no_vertex ≡ c.index-vertices-number.result
    = search (rules, get_or_default) in
    below_more _ _ c.loop-number.invariant (rw vertex (search (rules, all_from_find, c.unknown_successor.ensures)))
