use Rattle.std.proofs.Common.{arith, refl}
use Rattle.ps_hoa.proofs.Lexing.Streams.{kept_length, kept_rest}
use Rattle.ps_hoa.proofs.tokens.Tokens.skip_any.Goals as goal

pub returns-clause-rest : goal.returns-clause-rest
returns-clause-rest c =
    kept_rest c.self.invariant c.self.view_is refl c.pass.ensures c.first_lexeme-lexeme.ensures.rises
    c.first_lexeme-lexeme.ensures.same

pub returns-clause-rises : goal.returns-clause-rises
returns-clause-rises c = grind (arith, kept_length c.self.invariant c.self.view_is)
