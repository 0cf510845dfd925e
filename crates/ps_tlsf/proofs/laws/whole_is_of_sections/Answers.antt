use Rattle.ps_tlsf.proofs.OutlinedTexts.WholeAnswers.{whole_of_answer}
use Rattle.ps_tlsf.proofs.laws.whole_is_of_sections.Goals as goal

pub returns : goal.returns
returns c = whole_of_answer
