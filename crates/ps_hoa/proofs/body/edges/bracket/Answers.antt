use Rattle.std.proofs.Common.{arith}
use Rattle.ps_hoa.proofs.Grammar.HeaderSigns.{reads_token}
use Rattle.ps_hoa.proofs.Reading.BodyReading.{bracket_signs}
use Rattle.ps_hoa.proofs.body.edges.bracket.Goals as goal

pub returns : goal.returns
returns c = grind (arith, reads_token, bracket_signs)
