use Rattle.std.proofs.Common.{arith}
use Rattle.ps_hoa.proofs.Grammar.HeaderSigns.{reads_token, signs_string}
use Rattle.ps_hoa.proofs.signs.quoted.Goals as goal

pub returns : goal.returns
returns c = grind (arith, reads_token, signs_string)
