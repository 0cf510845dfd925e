use Rattle.std.proofs.Common.{arith, length-drop}
use Rattle.ps_game.specs.Games.{successors_of}
use Rattle.ps_game.proofs.StoredGames.FlatArrays.{IsPart, part_read}
use Rattle.ps_game.proofs.vertices.Vertices.successors.Goals as goal
use Rattle.ps_game.proofs.vertices.Vertices.successors.Goals.{After-index-end}

part : (c : After-index-end) →
    IsPart c.self.inside.successors.items c.index-start.result.now c.index-end.result.now
    (successors_of c.args.self.now c.args.vertex)
part c = part_read c.self.invariant.tell c.self.view_is c.requires c.index-start.ensures c.index-end.ensures

pub split_at-requires : goal.split_at-requires
split_at-requires c = grind (arith, part (goal.at.split_at-requires c).After-index-end)

pub overflow_sub-end : goal.overflow_sub-end
overflow_sub-end c = let own = part (goal.at.overflow_sub-end c).After-index-end in omega arith

pub split_at-requires-2 : goal.split_at-requires-2
split_at-requires-2 c = grind (
  arith,
  part (goal.at.split_at-requires-2 c).After-index-end,
  length-drop c.index-start.result.now c.deref.result.now,
)

pub returns : goal.returns
returns c = grind (arith, part (goal.at.returns c).After-index-end)
