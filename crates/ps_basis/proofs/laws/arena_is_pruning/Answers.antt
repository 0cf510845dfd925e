use Rattle.ps_basis.proofs.ArenaCovers.{arena_there}
use Rattle.ps_basis.proofs.laws.arena_is_pruning.Goals as goal

pub returns : goal.returns
returns c = arena_there
