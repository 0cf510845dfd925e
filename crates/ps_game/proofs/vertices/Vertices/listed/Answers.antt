use Rattle.std.proofs.Common.{◌≡◌, ◌<◌, ◌∙◌, List, length, [], ◌∷◌, ◌++◌, get_or, take, sym, ap, arith}
use Rattle.std.proofs.lemmas.Grind.{get_or_default_zero}
use Rattle.std.proofs.lemmas.List.{take_more}
use Rattle.std.proofs.lemmas.List.Elements.{All-get_or}
use Rattle.ps_game.specs.Games.{VertexData, no_vertex, vertex_count, owner_of, priority_of, successors_of}
use Rattle.ps_game.proofs.StoredGames.FlatArrays.{stands}
use Rattle.ps_game.proofs.vertices.Vertices.listed.Goals as goal

pub of_number-requires : goal.of_number-requires
unfolding vertex_count owner_of
of_number-requires c =
    let s = c.self.inside in
    let game = c.args.self.now in
    let v = c.loop-vertex.vertex in
    let within : v < length game = omega (arith, c.loop-vertex-test.true, c.len-vertex-end.ensures) in
    let at = stands c.self.invariant.tell c.self.view_is {v = v} within in
    let owner = c.index.ensures ∙ get_or_default_zero s.owners.items v c.index.result.now at.owned ∙ at.owner_is in
    rw owner (All-get_or (λ (vertex : VertexData). vertex.owner < 2) game v no_vertex within
    (rw c.self.view_is at c.self.invariant.players))

pub loop-vertex-preserved : goal.loop-vertex-preserved
unfolding vertex_count owner_of priority_of successors_of
loop-vertex-preserved c =
    let s = c.self.inside in
    let game = c.args.self.now in
    let v = c.loop-vertex.vertex in
    let at = stands c.self.invariant.tell c.self.view_is {v = v}
    (omega (arith, c.loop-vertex-test.true, c.len-vertex-end.ensures)) in
    let owner = c.of_number.ensures ∙ c.index.ensures
    ∙ get_or_default_zero s.owners.items v c.index.result.now at.owned ∙ at.owner_is in
    let priority = c.index-in-loop-vertex.ensures
    ∙ get_or_default_zero s.priorities.items v c.index-in-loop-vertex.result.now at.ranked ∙ at.priority_is in
    let made : c.in_ok-listed.listed ≡ get_or game v no_vertex =
    rw (c.in_ok-listed.ensures, owner, priority, c.successors.ensures) in
    c.in_ok-push.ensures.items ∙ ap (λ (vs : List VertexData). vs ++ c.in_ok-listed.listed ∷ []) c.loop-vertex.invariant
    ∙ ap (λ (x : VertexData). take v game ++ x ∷ []) made
    ∙ sym (take_more game v no_vertex (omega (arith, c.loop-vertex-test.true, c.len-vertex-end.ensures)))
