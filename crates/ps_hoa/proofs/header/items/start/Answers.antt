use Rattle.ps_text.specs.Parts.{barred}
use Rattle.ps_text.proofs.ParsedAnswers.Exits.{reads_mapped}
use Rattle.ps_hoa.specs.Grammar.Header.{with_start, int, IsAlternating, header_data}
use Rattle.ps_hoa.specs.Grammar.Operands.{number_limit}
use Rattle.ps_hoa.proofs.Reading.HoaExits.{exit, under}
use Rattle.ps_hoa.proofs.header.items.start.Goals as goal

pub returns-in_err-start_state : goal.returns-in_err-start_state
returns-in_err-start_state c = exit _ _ _ _ (under (with_start (header_data c.args.header.now))
    (barred (int number_limit) IsAlternating)) c.in_err-start_state.ensures c.from_residual.ensures.1

pub returns : goal.returns
returns c = reads_mapped (with_start (header_data c.args.header.now)) c.in_ok-start_state.ensures
