use Rattle.std.proofs.Common.{ℕ, ◌<◌, List, [], ◌∷◌, ◌++◌, ap, ◌∙◌, arith, rules}
use Rattle.std.proofs.lemmas.List.Elements.{All-push}
use Rattle.ps_game.specs.Games.{VertexData}
use Rattle.ps_game.proofs.StoredGames.VertexArrays.{StandFor, stand_for, tell_more}
use Rattle.ps_game.proofs.vertices.Vertices.push.Goals as goal
use Rattle.ps_game.proofs.vertices.Vertices.push.Goals.{After-push_reserved-3}

more : (c : After-push_reserved-3) →
    StandFor
    (c.args.self.now
    ++ record { owner = c.args.owner; priority = c.args.priority; successors = c.args.successors.now } ∷ [])
    c.push_reserved.new.self.items c.append.new.list.items c.push_reserved-2.new.self.items
    c.push_reserved-3.new.self.items
more c =
    let vertex : VertexData =
    record { owner = c.args.owner; priority = c.args.priority; successors = c.args.successors.now } in
    let room = c.make_room.ensures in
    stand_for (tell_more (rw c.self.view_is at c.self.invariant.tell) vertex
    (c.push_reserved.ensures.items ∙ ap (λ (ns : List ℕ). ns ++ c.len-end.result ∷ []) room.offsets)
    (search rules)
    (rw c.number.ensures.number at
    (c.push_reserved-2.ensures.items ∙ ap (λ (ns : List ℕ). ns ++ c.number.result ∷ []) room.owners))
    (c.push_reserved-3.ensures.items ∙ ap (λ (ns : List ℕ). ns ++ c.args.priority ∷ []) room.priorities)
    (omega (arith, c.len-end.ensures, c.append.new.list.ok.0))
    (omega (arith, c.len-end.ensures, c.append.new.list.small)))
    (All-push (λ (v : VertexData). v.owner < 2) _ vertex (rw c.self.view_is at c.self.invariant.players)
    (rw c.number.ensures.number at c.number.ensures.player))

pub invariant_of-self-2 : goal.invariant_of-self-2
invariant_of-self-2 c = search (rules, more)

pub returns-clause-ok : goal.returns-clause-ok
returns-clause-ok c = search (rules, more)
