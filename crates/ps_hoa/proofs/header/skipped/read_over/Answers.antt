use Rattle.ps_hoa.proofs.Grammar.HeaderSigns.{reads_token, signs_read_over}
use Rattle.ps_hoa.proofs.header.skipped.read_over.Goals as goal

pub returns : goal.returns
returns c = λ h. reads_token (λ _. h) (signs_read_over h) _ _ _ _ (c.read_over_of.ensures h)
    c.advance-token.ensures.next c.advance-token.ensures.rest
