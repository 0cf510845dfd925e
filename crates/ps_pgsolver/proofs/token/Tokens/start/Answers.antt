use Rattle.std.proofs.Common.{arith}
use Rattle.ps_pgsolver.proofs.TokensOfGames.TokenLemmas.{offset_ahead}
use Rattle.ps_pgsolver.proofs.token.Tokens.start.Goals as goal

pub returns : goal.returns
returns c = grind (arith, offset_ahead)
