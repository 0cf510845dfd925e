use Rattle.std.proofs.Common.{arith}
use Rattle.std.proofs.lemmas.List.{map-set}
use Rattle.ps_attractor.proofs.Kept.{level_kept}
use Rattle.ps_attractor.proofs.levels.Levels.set.Goals as goal

pub returns : goal.returns
returns g c = grind (arith, map-set, level_kept)
