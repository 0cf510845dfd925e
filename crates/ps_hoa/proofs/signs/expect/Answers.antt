use Rattle.ps_hoa.proofs.Grammar.HeaderSigns.{reads_token, signs_expect}
use Rattle.ps_hoa.proofs.signs.expect.Goals as goal

pub returns : goal.returns
returns c = λ test is. reads_token (λ u. u) (signs_expect test c.args.kind is c.requires) _ _ _ _
    (c.expect_of.ensures test is) c.advance-token.ensures.next c.advance-token.ensures.rest
