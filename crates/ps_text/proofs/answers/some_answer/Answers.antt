-- The law `some_answer` is proved by a lemma.
use Rattle.ps_text.proofs.ParsedAnswers.Outcomes.{some_answer_of}
use Rattle.ps_text.proofs.answers.some_answer.Goals as goal

pub returns : goal.returns
returns g c = some_answer_of
