use Rattle.ps_text.proofs.ParsedAnswers.Exits.{reads_then}
use Rattle.ps_hoa.proofs.Reading.HoaExits.{exit, first, behind, here}
use Rattle.ps_hoa.proofs.Grammar.WholeHeader.{joint_header}
use Rattle.ps_hoa.proofs.header.items.header.Goals as goal

pub returns-in_err-header : goal.returns-in_err-header
returns-in_err-header c = exit _ _ _ _ (first joint_header) c.in_err-header.ensures c.from_residual.ensures.1

pub returns-in_err-body_token : goal.returns-in_err-body_token
returns-in_err-body_token c = exit _ _ _ _ (behind joint_header c.in_ok-header.ensures here) c.in_err-body_token.ensures
    c.from_residual-in_err-body_token.ensures.1

pub returns : goal.returns
returns c = reads_then joint_header c.in_ok-header.ensures c.in_ok-body_token.ensures
