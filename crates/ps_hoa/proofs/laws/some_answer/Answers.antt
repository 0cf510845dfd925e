-- The lemma `some_reading` proves the law `some_answer`.
use Rattle.ps_hoa.proofs.HoaOutcomes.SomeHoaReading.{some_reading}
use Rattle.ps_hoa.proofs.laws.some_answer.Goals as goal

pub returns : goal.returns
returns c = some_reading
