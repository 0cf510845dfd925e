use Rattle.std.proofs.Common.{arith}
use Rattle.std.proofs.lemmas.Grind.{common_steps}
use Rattle.ps_game.specs.Games.{owner_of, priority_of, successors_of}
use Rattle.ps_pgsolver.proofs.writer.write_vertex.Goals as goal

pub returns-clause-bytes : goal.returns-clause-bytes
unfolding owner_of priority_of successors_of
returns-clause-bytes c = grind (arith, common_steps)
