-- The law `one_list_of_tokens` holds because a text's tokens are exactly those that the lexer produces.
use Rattle.ps_pgsolver.specs.Lexer.{stream_of}
use Rattle.ps_pgsolver.proofs.TokensOfGames.GameTokens.{tokens_found, only_tokens}
use Rattle.ps_pgsolver.proofs.laws.one_list_of_tokens.Goals as goal

pub returns : goal.returns
returns c = λ text. (stream_of text, tokens_found text, only_tokens text)
