use Rattle.std.proofs.Common.{rules}
use Rattle.ps_pgsolver.proofs.TokensOfGames.NextSigns.{next_sign, at_no_name}
use Rattle.ps_pgsolver.proofs.token.Tokens.next_name.Goals as goal

pub returns-then-not-begins_with-clause-name : goal.returns-then-not-begins_with-clause-name
returns-then-not-begins_with-clause-name c = search (rules, next_sign, at_no_name)
