use Rattle.std.proofs.Common.{◌+◌, ◌*◌}
use Rattle.ps_symbolic.proofs.game.Game.+region.Given as goal

abbrev pub decreases-region : goal.decreases-region
decreases-region l = 2 * l.depth

abbrev pub decreases-improved : goal.decreases-improved
decreases-improved l = 2 * l.depth + 1
