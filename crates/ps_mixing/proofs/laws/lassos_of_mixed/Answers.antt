use Rattle.ps_mixing.proofs.MixedWords.{accepts_mixed}
use Rattle.ps_mixing.proofs.laws.lassos_of_mixed.Goals as goal

pub returns : goal.returns
returns c file mixing is = accepts_mixed mixing file is
