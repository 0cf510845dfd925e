use Rattle.std.proofs.Common.{arith, refl, sym}
use Rattle.ps_hoa.proofs.Lexing.Streams.{kept_length, kept_rest}
use Rattle.ps_hoa.proofs.tokens.Tokens.skip.Goals as goal

pub returns-in-Some-clause-rest : goal.returns-in-Some-clause-rest
returns-in-Some-clause-rest c =
    kept_rest c.self.invariant c.self.view_is refl (sym (c.stays.ensures c.if-stays.true _)) c.in-Some.ensures.rises
    c.in-Some.ensures.same

pub returns-in-Some-clause-rises : goal.returns-in-Some-clause-rises
returns-in-Some-clause-rises c =
    grind (arith, c.in-Some.ensures.rises, kept_length c.self.invariant c.self.view_is)
