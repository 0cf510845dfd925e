use Rattle.std.proofs.Common.{arith}
use Rattle.ps_hoa.proofs.Grammar.HeaderSigns.{reads_token}
use Rattle.ps_hoa.proofs.Reading.LeafReading.{leaf_signs}
use Rattle.ps_hoa.proofs.label.ScopeInfix.leaf.Goals as goal

pub returns : goal.returns
returns c = grind (arith, reads_token, leaf_signs)
