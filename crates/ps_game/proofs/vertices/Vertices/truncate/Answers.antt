use Rattle.std.proofs.Common.{◌<◌, ◌≤◌, length, take, ap, ◌∙◌, arith, rules}
use Rattle.std.proofs.lemmas.Grind.{get_or_default_zero}
use Rattle.std.proofs.lemmas.List.Elements.{All-take}
use Rattle.ps_game.specs.Games.{VertexData, vertex_count}
use Rattle.ps_game.proofs.StoredGames.FlatArrays.{owners_count}
use Rattle.ps_game.proofs.StoredGames.VertexArrays.{StandFor, stand_for, tell_front}
use Rattle.ps_game.proofs.vertices.Vertices.truncate.Goals as goal
use Rattle.ps_game.proofs.vertices.Vertices.truncate.Goals.{After-truncate-4}

front : (c : After-truncate-4) →
    StandFor (take c.args.count c.args.self.now) c.truncate.new.self.items c.truncate-2.new.self.items
    c.truncate-3.new.self.items c.truncate-4.new.self.items
unfolding vertex_count
front c =
    let s = c.self.inside in
    let k = c.args.count in
    let tell = rw c.self.view_is at c.self.invariant.tell in
    let less : k < length c.args.self.now =
    omega (arith, c.if-count-len.false, c.len.ensures, s.owners.ok.0, owners_count c.self.invariant.tell c.self.view_is)
    in
    let end = c.index-end.ensures ∙ get_or_default_zero s.offsets.items k c.index-end.result.now
    (omega (arith, less, tell.offsets_are.offset_each)) in
    let successors = c.truncate-2.ensures.items ∙ ap (λ n. take n s.successors.items) end in
    rw (c.truncate.ensures.items, successors, c.truncate-3.ensures.items, c.truncate-4.ensures.items)
    (stand_for (tell_front tell (let le : k ≤ length c.args.self.now = omega arith in le))
    (All-take (λ (v : VertexData). v.owner < 2) k c.args.self.now (rw c.self.view_is at c.self.invariant.players)))

pub invariant_of-self : goal.invariant_of-self
invariant_of-self c = search (rules, front)

pub returns : goal.returns
returns c = search (rules, front)
