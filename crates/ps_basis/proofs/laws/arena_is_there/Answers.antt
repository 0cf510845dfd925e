use Rattle.ps_basis.proofs.ArenaThere.{arena_exists}
use Rattle.ps_basis.proofs.laws.arena_is_there.Goals as goal

pub returns : goal.returns
returns c = arena_exists
