use Rattle.ps_basis.proofs.ArenaCovers.{lift_of_arena}
use Rattle.ps_basis.proofs.laws.arena_certificate_lifts.Goals as goal

pub returns : goal.returns
returns c = lift_of_arena
