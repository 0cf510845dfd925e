use Rattle.std.proofs.Common.{refl}
use Rattle.ps_keys.specs.Hashes.{folded}
use Rattle.ps_keys.proofs.hashed.folded.Goals as goal

pub returns : goal.returns
unfolding folded
returns c = refl
