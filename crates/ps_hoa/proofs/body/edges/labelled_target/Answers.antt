use Rattle.ps_hoa.specs.Grammar.Body.{IsBadState}
use Rattle.ps_hoa.proofs.Reading.BodyReading.{target_reads, target_fails, target_alternates}
use Rattle.ps_hoa.proofs.Reading.HoaExits.{exit, here}
use Rattle.ps_hoa.proofs.body.edges.labelled_target.Goals as goal

pub returns-in_err-target : goal.returns-in_err-target
returns-in_err-target c = exit _ _ _ _ here (target_fails (IsBadState c.args.header.now.states) _
    c.advance-token.ensures.next c.advance-token.ensures.rest _ c.in_err-target.ensures) c.from_residual.ensures.1

pub returns-in_err-alone : goal.returns-in_err-alone
returns-in_err-alone c = exit _ _ _ _ here (target_alternates (IsBadState c.args.header.now.states) _
    c.advance-token.ensures.next c.advance-token.ensures.rest _ c.in_ok-target.ensures _ c.in_err-alone.ensures)
    c.from_residual-in_err-alone.ensures.1

pub returns : goal.returns
returns c = target_reads (IsBadState c.args.header.now.states) _ c.advance-token.ensures.next
    c.advance-token.ensures.rest _ c.in_ok-target.ensures c.in_ok-alone.ensures
