use Rattle.std.proofs.Common.{◌≡◌, ◌<◌, Bool, List, true, false, IsTrue, length, subst, sym, ap, ◌∙◌, arith}
use Rattle.std.proofs.lemmas.List.{length-replicate, get_or-replicate}
use Rattle.ps_game.specs.Games.{vertex_count}
use Rattle.ps_game.specs.Regions.{has}
use Rattle.ps_game.proofs.PathsAndLoops.SubgameFacts.{has-below}
use Rattle.ps_game_tests.proofs.solvers.attract_to.Goals as goal

pub attract-requires-clause-target : goal.attract-requires-clause-target
attract-requires-clause-target g c v inside =
    let n = vertex_count (g.A.Arena.game c.args.arena.now) in
    let below : v < length c.loop-vertex.target = has-below c.loop-vertex.target v inside in
    let size : length c.in_ok-target.target ≡ c.count.result = ap length c.in_ok-target.ensures
    ∙ length-replicate c.count.result false in
    let same : length c.loop-vertex.target ≡ length c.in_ok-target.target = c.loop-vertex.invariant in
    let In : List Bool → Type 0 = λ region. IsTrue (has region v) in
    subst In (sym c.in_ok-subgame.ensures.all) (get_or-replicate n v true false
    (omega (arith, c.count.ensures.vertices)))

pub attract-requires-clause-target_places : goal.attract-requires-clause-target_places
attract-requires-clause-target_places g c =
    c.loop-vertex.invariant ∙ ap length c.in_ok-target.ensures ∙ length-replicate c.count.result false
    ∙ c.count.ensures.vertices
