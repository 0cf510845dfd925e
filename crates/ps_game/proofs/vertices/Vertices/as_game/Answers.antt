use Rattle.std.proofs.Common.{◌∙◌, rules}
use Rattle.std.proofs.lemmas.List.{map-id}
use Rattle.ps_game.proofs.StoredGames.FlatArrays.{game_flat}
use Rattle.ps_game.proofs.vertices.Vertices.as_game.Goals as goal

pub invariant_of-result : goal.invariant_of-result
invariant_of-result c =
    let offsets = c.of.ensures ∙ map-id _ in
    let successors = c.of-2.ensures ∙ map-id _ in
    rw (offsets, successors) (game_flat c.self.invariant.tell (rw c.self.view_is c.requires))

pub returns : goal.returns
returns c = search (rules, map-id)
