use Rattle.std.proofs.Common.{refl}
use Rattle.ps_tlsf.specs.Reading.{answer_of}
use Rattle.ps_tlsf.proofs.laws.some_answer.Goals as goal

pub returns : goal.returns
returns c = λ text. (answer_of text, refl)
