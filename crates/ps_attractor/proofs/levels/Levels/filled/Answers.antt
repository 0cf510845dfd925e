use Rattle.std.proofs.Common.{arith, replicate}
use Rattle.ps_attractor.proofs.Kept.{level_kept, map-replicate}
use Rattle.ps_attractor.proofs.levels.Levels.filled.Goals as goal

pub returns : goal.returns
returns g c = grind (arith, map-replicate, replicate, level_kept)
