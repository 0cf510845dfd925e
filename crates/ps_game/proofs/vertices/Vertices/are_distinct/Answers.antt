use Rattle.std.proofs.Common.{arith}
use Rattle.std.proofs.lemmas.List.{get_or_default}
use Rattle.ps_game.specs.Games.{no_vertex, vertex_count, successors_of}
use Rattle.ps_game.proofs.vertices.Vertices.are_distinct.Goals as goal

pub returns : goal.returns
unfolding vertex_count successors_of
returns c = λ k d lt. grind (arith, get_or_default c.args.self.now k no_vertex d lt)
