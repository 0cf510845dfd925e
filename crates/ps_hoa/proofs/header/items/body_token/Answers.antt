use Rattle.std.proofs.Common.{arith}
use Rattle.ps_hoa.proofs.Grammar.HeaderSigns.{reads_token, signs_body}
use Rattle.ps_hoa.proofs.header.items.body_token.Goals as goal

pub returns : goal.returns
returns c = grind (arith, reads_token, signs_body)
