use Rattle.std.proofs.Common.{rules}
use Rattle.ps_game.proofs.StoredGames.VertexArrays.{all_tested-each, successors-below}
use Rattle.ps_game.proofs.vertices.Vertices.know_successors.Goals as goal

pub returns-then-are_places : goal.returns-then-are_places
returns-then-are_places c =
    let own = rw c.list.ensures.list at (c.are_places.ensures.0 c.if-are_places.true) in
    rw (
      c.are_below.ensures,
      c.deref.ensures.value,
      c.list-then-are_places.ensures.list,
      c.self.invariant.tell.successors_are,
      c.self.view_is,
    ) (successors-below c.args.ids.now own c.args.self.now)

pub returns : goal.returns
returns c = search (rules, all_tested-each)
