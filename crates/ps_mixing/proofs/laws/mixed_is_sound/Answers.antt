use Rattle.ps_mixing.proofs.MixedSound.{mixed_is_sound}
use Rattle.ps_mixing.proofs.laws.mixed_is_sound.Goals as goal

pub returns : goal.returns
returns c = mixed_is_sound
