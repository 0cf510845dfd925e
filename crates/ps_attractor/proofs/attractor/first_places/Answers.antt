use Rattle.std.proofs.Common.{arith}
use Rattle.std.proofs.lemmas.List.{length-set}
use Rattle.ps_attractor.proofs.LaidOut.{first_place_more}
use Rattle.ps_attractor.proofs.attractor.first_places.Goals as goal

pub loop-place-preserved : goal.loop-place-preserved
loop-place-preserved g c = grind (arith, length-set, first_place_more)
