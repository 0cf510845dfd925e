use Rattle.std.proofs.Common.{arith}
use Rattle.ps_hoa.proofs.Grammar.HeaderSigns.{reads_token}
use Rattle.ps_hoa.proofs.Reading.LeafReading.{set_signs}
use Rattle.ps_hoa.proofs.condition.one_set.Goals as goal

pub returns : goal.returns
returns c = grind (arith, reads_token, set_signs)
