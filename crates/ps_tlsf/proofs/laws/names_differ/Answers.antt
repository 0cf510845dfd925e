use Rattle.ps_tlsf.proofs.OutlinedTexts.WholeAnswers.{differ_of_answer, few_of_answer}
use Rattle.ps_tlsf.proofs.laws.names_differ.Goals as goal

pub returns : goal.returns
returns c = record { distinct = differ_of_answer; few = few_of_answer }
