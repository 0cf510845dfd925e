-- The law `one_tokenisation` is proved by a lemma.
use Rattle.ps_text.proofs.ParsedAnswers.OneTokenisation.{has_one_tokenisation}
use Rattle.ps_text.proofs.tokens.one_tokenisation.Goals as goal

pub returns : goal.returns
returns g c = has_one_tokenisation g.L.Lexicon.is_blank g.L.Lexicon.is_token
