use Rattle.std.proofs.Common.{arith}
use Rattle.ps_text.proofs.ParsedAnswers.Exits.{reads_mapped}
use Rattle.ps_hoa.specs.Grammar.Header.{unchanged}
use Rattle.ps_hoa.proofs.Reading.HoaExits.{exit, under}
use Rattle.ps_hoa.proofs.header.skipped.name.Goals as goal

pub returns-in_err-quoted : goal.returns-in_err-quoted
returns-in_err-quoted c = λ h. exit _ _ _ _ (grind (arith, under)) c.in_err-quoted.ensures c.from_residual.ensures.1

pub returns : goal.returns
returns c = λ h. reads_mapped (unchanged h) c.in_ok-quoted.ensures
