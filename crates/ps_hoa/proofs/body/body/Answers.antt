use Rattle.std.proofs.Common.{arith}
use Rattle.ps_text.proofs.ParsedAnswers.Exits.{reads_then}
use Rattle.ps_hoa.specs.Grammar.Header.{header_data}
use Rattle.ps_hoa.proofs.Grammar.StateLaws.{joint_body}
use Rattle.ps_hoa.proofs.Reading.HoaExits.{exit, first, behind, here}
use Rattle.ps_hoa.proofs.body.body.Goals as goal

pub returns-in_err-rows : goal.returns-in_err-rows
returns-in_err-rows c = exit _ _ _ _ (grind (arith, first, joint_body)) c.in_err-rows.ensures c.from_residual.ensures.1

pub returns-in_err-end : goal.returns-in_err-end
returns-in_err-end c = exit _ _ _ _ (behind (joint_body (header_data c.args.header.now)) c.in_ok-rows.ensures here)
    c.in_err-end.ensures c.from_residual-in_err-end.ensures.1

pub returns : goal.returns
returns c = reads_then (joint_body (header_data c.args.header.now)) c.in_ok-rows.ensures c.in_ok-end.ensures
