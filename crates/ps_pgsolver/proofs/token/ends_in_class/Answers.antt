use Rattle.std.proofs.Common.{rules}
use Rattle.ps_pgsolver.proofs.TokensOfGames.TokenLemmas.{ends_in-last}
use Rattle.ps_pgsolver.proofs.token.ends_in_class.Goals as goal

pub returns-in-Some : goal.returns-in-Some
returns-in-Some c = search (rules, ends_in-last)
