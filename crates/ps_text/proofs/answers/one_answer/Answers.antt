-- The law `one_answer` is proved by a lemma.
use Rattle.ps_text.proofs.ParsedAnswers.OneAnswer.{has_one_answer}
use Rattle.ps_text.proofs.answers.one_answer.Goals as goal

pub returns : goal.returns
returns g c = has_one_answer g.M.Format.is_text g.M.Format.is_cause g.M.Format.number
