use Rattle.std.proofs.Common.{arith}
use Rattle.ps_text.proofs.ParsedAnswers.Exits.{reads_mapped}
use Rattle.ps_hoa.specs.Grammar.Header.{with_states, header_data}
use Rattle.ps_hoa.proofs.Reading.HoaExits.{exit, under}
use Rattle.ps_hoa.proofs.header.items.states.Goals as goal

pub returns-in_err-int : goal.returns-in_err-int
returns-in_err-int c = exit _ _ _ _ (grind (arith, under)) c.in_err-int.ensures.part c.from_residual.ensures.1

pub returns : goal.returns
returns c = reads_mapped (with_states (header_data c.args.header.now)) c.in_ok-int.ensures.part
