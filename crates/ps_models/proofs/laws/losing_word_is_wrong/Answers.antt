use Rattle.ps_models.proofs.JudgedCircuits.Refuting.{word_is_wrong}
use Rattle.ps_models.proofs.laws.losing_word_is_wrong.Goals as goal

pub returns : goal.returns
returns c = λ order role f circuit s word loses is. word_is_wrong loses word is
