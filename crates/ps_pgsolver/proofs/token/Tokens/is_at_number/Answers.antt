use Rattle.std.proofs.Common.{rules}
use Rattle.ps_pgsolver.proofs.TokensOfGames.NextSigns.{next_sign, at_number}
use Rattle.ps_pgsolver.proofs.token.Tokens.is_at_number.Goals as goal

pub returns-then-begins_with : goal.returns-then-begins_with
returns-then-begins_with c = search (rules, next_sign, at_number)

pub returns-else-begins_with : goal.returns-else-begins_with
returns-else-begins_with c = search (rules, next_sign, at_number)
