use Rattle.std.proofs.Common.{arith}
use Rattle.ps_hoa.proofs.Grammar.HeaderSigns.{reads_token}
use Rattle.ps_hoa.proofs.Reading.StateReading.{next_signs}
use Rattle.ps_hoa.proofs.body.begin.Goals as goal

pub returns : goal.returns
returns c = grind (arith, reads_token, next_signs)
