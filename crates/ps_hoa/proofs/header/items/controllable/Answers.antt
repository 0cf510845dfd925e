use Rattle.std.proofs.Common.{arith}
use Rattle.ps_text.proofs.ParsedAnswers.Exits.{reads_mapped}
use Rattle.ps_hoa.specs.Grammar.Header.{with_controllable, header_data}
use Rattle.ps_hoa.proofs.Reading.HoaExits.{exit, under}
use Rattle.ps_hoa.proofs.header.items.controllable.Goals as goal

pub returns-in_err-indices : goal.returns-in_err-indices
returns-in_err-indices c = exit _ _ _ _ (grind (arith, under)) c.in_err-indices.ensures c.from_residual.ensures.1

pub returns : goal.returns
returns c = reads_mapped (with_controllable (header_data c.args.header.now)) c.in_ok-indices.ensures
